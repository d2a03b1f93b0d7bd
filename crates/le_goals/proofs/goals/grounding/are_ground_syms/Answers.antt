use Rattle.std.proofs.Common.{rules, ◌≡◌, ◌+◌, true, sym, ◌∙◌}
use Rattle.std.proofs.lemmas.List.{get_or_default}
use Rattle.le_store.specs.Shown.{IsThere}
use Rattle.le_goals.specs.Frames.{cell_term}
use Rattle.le_goals.proofs.Symbols.{later-variables}
use Rattle.le_goals.proofs.VariableFree.{next-symbol}
use Rattle.le_goals.proofs.goals.grounding.are_ground_syms.Goals as goal

pub loop-sym-preserved : goal.loop-sym-preserved
loop-sym-preserved c =
    let free : c.in_ok-is_ground_sym.field-0 ≡ true = search rules in
    record {
      left =
          c.loop-sym.invariant.left
          ∙ next-symbol c.args.syms.now c.loop-sym.sym-index _ c.loop-sym-test.true (get_or_default c.args.syms.now c.loop-sym.sym-index _ _ c.loop-sym-test.true) (cell_term c.args.store.now.now c.args.base) (sym c.in_ok-is_ground_sym.ensures ∙ free);
      there = later-variables (λ v. IsThere c.args.store.now (c.args.base + v)) c.args.syms.now c.loop-sym.sym-index c.loop-sym.invariant.there;
    }
