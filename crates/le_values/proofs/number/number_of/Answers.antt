use Rattle.std.proofs.Common.{◌≡◌, true, false, ℕ, ◌≤◌, arith, rules, ◌∙◌, ap, Some, FitsSigned, w64, unsigned_abs}
use Rattle.std.proofs.lemmas.Int.{to_z-of_z}
use Rattle.le_values.specs.Numbers.{greatest_number, is_number_word, word_value}
use Rattle.le_values.proofs.NumberLemmas.{number_of-no_word, number_of-too_large, number_of-value, parsed, unparsed}
use Rattle.le_values.proofs.number.number_of.Goals as goal

pub returns-then-not-is_number_word-clause-value :
    goal.returns-then-not-is_number_word-clause-value
returns-then-not-is_number_word-clause-value c =
    let no : is_number_word c.args.word.now ≡ false = grind arith in
    number_of-no_word c.args.word.now no

pub returns-in_default-clause-value : goal.returns-in_default-clause-value
returns-in_default-clause-value c =
    let form : is_number_word c.args.word.now ≡ true = grind arith in
    number_of-too_large c.args.word.now (unparsed ℕ c.args.word.now 0 c.in_default.ensures.value.0 form)

pub returns-then-unsigned_abs-clause-value :
    goal.returns-then-unsigned_abs-clause-value
returns-then-unsigned_abs-clause-value c =
    let form : is_number_word c.args.word.now ≡ true = grind arith in
    let value = parsed ℕ c.args.word.now c.in-Ok.number c.in-Ok.ensures.value.0 form in
    let fits : FitsSigned w64 c.in-Ok.number = search rules in
    let size = simp to_z-of_z at c.unsigned_abs.ensures.value in
    number_of-too_large c.args.word.now (rw (← value, ← size) c.if-unsigned_abs.true)

pub returns-clause-value : goal.returns-clause-value
returns-clause-value c =
    let form : is_number_word c.args.word.now ≡ true = grind arith in
    let value = parsed ℕ c.args.word.now c.in-Ok.number c.in-Ok.ensures.value.0 form in
    let fits : FitsSigned w64 c.in-Ok.number = search rules in
    let size = simp to_z-of_z at c.unsigned_abs.ensures.value in
    let small : unsigned_abs (word_value c.args.word.now) ≤ greatest_number = rw (← value, ← size) c.if-unsigned_abs.false in
    simp to_z-of_z (ap (λ z. Some z) value ∙ number_of-value c.args.word.now form small)
