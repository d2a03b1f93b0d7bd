use Rattle.std.proofs.Common.{◌≡◌, ◌∙◌, ◌+◌, ◌-◌, ◌<◌, ◌^◌, ◌++◌, ◌∷◌, [], length, min, cond, false, ℕ, sym, ap, arith}
use Rattle.le_english.specs.declared.line.Line.{Line}
use Rattle.le_english.specs.Phrases.{scanned, is_plain_name, name_phrase}
use Rattle.le_english.specs.Lines.{with_tokens}
use Rattle.le_match.proofs.BestLemmas.{both_ok}
use Rattle.le_english.proofs.LineLemmas.{plain-line, quoted-line, some-plain, none-quoted, ok-same}
use Rattle.le_english.proofs.phrases.push_name.Goals as goal

pub returns-in-Some : goal.returns-in-Some
returns-in-Some c =
    let users = c.args.templates.now in
    let name = c.args.name.now in
    let line = c.args.line.now in
    let new = c.put_words.new.self in
    let found = some-plain (is_plain_name users name) (length (scanned name)) c.in-Some.count (sym c.in_ok-count.ensures ∙ c.in-Some.is) in
    both_ok c.put_words.result _ _ (new ≡ with_tokens line (name_phrase users name)) c.put_words.ensures.fits c.put_words.ensures.line
    (λ (low : line.tokens < 2 ^ 64) same. same ∙ ap (λ (n : ℕ). let l : Line = record { text = line.text ++ (cond line.glued [] (32 ∷ []) ++ name); glued = false; tokens = min (line.tokens + n) (2 ^ 64 - 1) } in l) (sym found.1) ∙ plain-line users name line found.0 (omega arith))

pub returns : goal.returns
returns c =
    let users = c.args.templates.now in
    let name = c.args.name.now in
    let line = c.args.line.now in
    let found = none-quoted (is_plain_name users name) (length (scanned name)) (sym c.in_ok-count.ensures ∙ c.in_default.is) in
    ok-same c.put.result _ (c.put.new.self ≡ with_tokens line (name_phrase users name)) (λ same. same ∙ quoted-line users name line found) c.put.ensures
