-- A rule whose first `if` is here.
use Rattle.std.proofs.Common.{◌≡◌, ◌<◌, ◌+◌, ℕ, cond, nat_lt, sym, ap, ◌∙◌}
use Rattle.std.proofs.lemmas.Bool.{lt-ltb}
use Rattle.le_layout.specs.declared.span.Span.{Span}
use Rattle.le_layout.specs.declared.layout.Layout.{Layout}
use Rattle.le_conds.specs.Items.{span}
use Rattle.le_conds.specs.Rules.{first_if, rule_of, rule_with, fact_with, conditions_among}

pub rule_here : (l : Layout) (sentence : Span) (k : ℕ) → k ≡ first_if l sentence → k < sentence.to → rule_of l sentence ≡ rule_with l (span sentence.from k) (conditions_among l k (k + 1) sentence.to)
rule_here l sentence k same low =
    sym (ap (λ (j : ℕ). cond (nat_lt j sentence.to) (rule_with l (span sentence.from j) (conditions_among l j (j + 1) sentence.to)) (fact_with l (span sentence.from j))) same)
    ∙ ap (λ b. cond b (rule_with l (span sentence.from k) (conditions_among l k (k + 1) sentence.to)) (fact_with l (span sentence.from k))) (lt-ltb k sentence.to low)
