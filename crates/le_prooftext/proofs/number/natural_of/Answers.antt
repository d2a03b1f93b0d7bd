use Rattle.std.proofs.Common.{◌≡◌, ℕ, ◌<◌, ◌^◌, true, false, Ok, Err, sym, ◌∙◌, ap, arith, subst}
use Rattle.std.proofs.lemmas.Bool.{not-true, not-false, both_ways}
use Rattle.std.proofs.lemmas.Fmt.{IsAscii-decimal, parse-decimal}
use Rattle.std.proofs.lemmas.Str.{IsUtf8-from_ascii}
use Rattle.std.specs.Str.{IsUtf8, bytes_eq}
use Rattle.std.specs.Fmt.{decimal}
use Rattle.le_prooftext.specs.Reading.{natural_of}
use Rattle.le_prooftext.proofs.Numbers.{natural_of-decimal, natural_of-none, bytes_same, same_bytes}
use Rattle.le_prooftext.proofs.number.natural_of.Goals as goal

pub returns-in_default : goal.returns-in_default
returns-in_default c =
    sym (natural_of-none c.args.bytes.now (λ n small spelled. c.in_default.ensures.cases.0 (subst IsUtf8 spelled (IsUtf8-from_ascii _ (IsAscii-decimal n small)))))

pub returns-in_default-parse : goal.returns-in_default-parse
returns-in_default-parse c =
    sym (natural_of-none c.args.bytes.now (λ n small spelled. cc (parse-decimal {E = ℕ} 64 n c.in-Ok.text.now (Err 0) small small (c.in-Ok.ensures.cases.0 ∙ sym spelled) c.in_default-parse.ensures.value.0)))

pub returns-then-ne : goal.returns-then-ne
returns-then-ne c =
    let differs : bytes_eq c.as_bytes-digits.result.now c.args.bytes.now ≡ false = not-true _ (sym c.ne.ensures ∙ c.if-ne.true) in
    sym (natural_of-none c.args.bytes.now (λ n small spelled.
    let read : c.in-Ok-parse.n ≡ n = cc (parse-decimal {E = ℕ} 64 n c.in-Ok.text.now (Ok c.in-Ok-parse.n) small small (c.in-Ok.ensures.cases.0 ∙ sym spelled) c.in-Ok-parse.ensures.value.0) in
    both_ways _ differs (bytes_same _ _ (c.as_bytes-digits.ensures.value ∙ (c.format.ensures.text ∙ (ap decimal read ∙ spelled))))))

pub returns : goal.returns
returns c =
    let same : bytes_eq c.as_bytes-digits.result.now c.args.bytes.now ≡ true = not-false _ (sym c.ne.ensures ∙ c.if-ne.false) in
    let spelled : c.args.bytes.now ≡ decimal c.in-Ok-parse.n = sym (same_bytes _ _ same) ∙ (c.as_bytes-digits.ensures.value ∙ c.format.ensures.text) in
    let small : c.in-Ok-parse.n < 2 ^ 64 = omega (arith, c.in-Ok-parse.ensures.value.0.0.1, c.in-Ok-parse.ensures.value.0.1) in
    sym (ap natural_of spelled ∙ natural_of-decimal c.in-Ok-parse.n small)
