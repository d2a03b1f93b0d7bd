-- The first `if`, one token further.
use Rattle.std.proofs.Common.{◌≡◌, ℕ, ◌+◌, ◌<◌, ◌≤◌, Bool, cond, length, codes, ap, ◌∙◌}
use Rattle.le_layout.specs.declared.layout.Layout.{Layout}
use Rattle.le_layout.specs.Layout.{no_token}
use Rattle.le_layout.specs.Words.{tokens_of, has_word}
use Rattle.le_layout.proofs.SpanLemmas.{slice_more}
use Rattle.le_conds.specs.Items.{span}
use Rattle.le_conds.specs.Rules.{if_from}

pub if_step : (l : Layout) (k to : ℕ) (b : Bool) → k < to → to ≤ length l.tokens → has_word l k (codes "if") ≡ b → if_from l k (tokens_of l (span k to)) ≡ cond b k (if_from l (k + 1) (tokens_of l (span (k + 1) to)))
unfolding has_word
if_step l k to b low high e =
    ap (if_from l k) (slice_more l.tokens k to no_token low high) ∙ ap (λ w. cond w k (if_from l (k + 1) (tokens_of l (span (k + 1) to)))) e
