-- The line with the number of nodes, read and spelled.
use Rattle.std.proofs.Common.{◌≡◌, ℕ, ◌^◌, ◌<◌, true, false, ⊎_elim, List, ◌++◌, length, take, drop, Option, Some, None, refl, sym, ap, ◌∙◌, arith, codes, length-append}
use Rattle.std.proofs.lemmas.Bool.{cases_Bool}
use Rattle.std.proofs.lemmas.List.{take-append-drop}
use Rattle.std.specs.Fmt.{decimal}
use Rattle.std.specs.Str.{bytes_eq}
use Rattle.le_prooftext.specs.Laws.{SpellsCount, ReadsCount}
use Rattle.le_prooftext.specs.Lines.{count_line}
use Rattle.le_prooftext.specs.Reading.{natural_of, count_of}
use Rattle.le_prooftext.proofs.Numbers.{not_some, same_bytes, natural_of-decimal, natural_of-some}

pub count_of-some : (line : List ℕ) (n : ℕ) → count_of line ≡ Some n → SpellsCount line n
unfolding count_of
count_of-some line n is =
    ⊎_elim (λ begins.
    let read : natural_of (drop 11 line) ≡ Some n = rw begins at is in
    let found = natural_of-some (drop 11 line) n read in
    record {
      spelled = ap (λ front. front ++ decimal n) (sym (same_bytes _ _ begins)) ∙ (ap (λ digits. take 11 line ++ digits) found.0 ∙ take-append-drop 11 line);
      in_range = found.1;
    })
    (λ fails. absurd (cc (rw fails at is)))
    (cases_Bool (bytes_eq (take 11 line) (codes "derivation ")))

pub count_of-line : (n : ℕ) → n < 2 ^ 64 → count_of (count_line n) ≡ Some n
unfolding count_of
count_of-line n h = natural_of-decimal n h

pub count_of-other : (line : List ℕ) → bytes_eq (take 11 line) (codes "derivation ") ≡ false → count_of line ≡ None
unfolding count_of
count_of-other line h = rw h refl

pub count_of-begins : (line : List ℕ) → bytes_eq (take 11 line) (codes "derivation ") ≡ true → count_of line ≡ natural_of (drop 11 line)
unfolding count_of
count_of-begins line h = rw h refl

pub count_of-short : (line : List ℕ) → length line < 11 → count_of line ≡ None
count_of-short line short =
    not_some (count_of line) (λ n is. absurd (omega (arith, simp length-append at (ap length ((count_of-some line n is).spelled)))))

-- what is read is what the line spells
pub reads_count : (line : List ℕ) (o : Option ℕ) → o ≡ count_of line → ReadsCount line o
reads_count line (Some n) is = count_of-some line n (sym is)
reads_count line None is = λ n spells. cc (is, ap count_of (spells.spelled), count_of-line n spells.in_range)
