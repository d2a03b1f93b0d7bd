use Rattle.std.proofs.Common.{◌++◌, ◌∷◌, [], sym, subst, ◌∙◌}
use Rattle.std.specs.List.{AllByRecursion}
use Rattle.le_store.specs.Shown.{IsThere}
use Rattle.le_unify.proofs.Occurring.{all_pop, all_push, fewer, opened}
use Rattle.le_goals.proofs.VariableFree.{variable-left, leaf-left, list-left}
use Rattle.le_goals.proofs.goals.grounding.is_ground_cell.Goals as goal

pub returns-in-Unbound : goal.returns-in-Unbound
returns-in-Unbound c =
    sym (c.loop-at.invariant.left ∙ variable-left c.args.store.now c.loop-at.rest.items c.pop.new.self.items c.in-Some.at c.in-Unbound.ensures.first.0 c.in-Some.ensures.items c.in-Unbound.ensures.first.1)

pub loop-at-smaller-in-Continue-branch-3 : goal.loop-at-smaller-in-Continue-branch-3
loop-at-smaller-in-Continue-branch-3 c =
    (opened c.args.store.now 0 c.loop-at.rest.items c.pop.new.self.items c.push-in-Cons.new.self.items c.push-in-Cons-2.new.self.items c.in-Some.at c.in-Cons.head c.in-Cons.tail c.in-Some.ensures.items c.in_ok-push-in-Cons.ensures.items c.in_ok-push-in-Cons-2.ensures.items c.in-Cons.ensures.first.2).1

pub loop-at-preserved-in-Continue-branch-3 : goal.loop-at-preserved-in-Continue-branch-3
loop-at-preserved-in-Continue-branch-3 c =
    let are : AllByRecursion (IsThere c.args.store.now) (c.pop.new.self.items ++ c.in-Some.at ∷ []) = subst (AllByRecursion (IsThere c.args.store.now)) c.in-Some.ensures.items c.loop-at.invariant.there in
    record {
      there =
          subst (AllByRecursion (IsThere c.args.store.now)) (sym c.in_ok-push-in-Cons-2.ensures.items) (all_push c.args.store.now c.push-in-Cons.new.self.items c.in-Cons.head
          (subst (AllByRecursion (IsThere c.args.store.now)) (sym c.in_ok-push-in-Cons.ensures.items) (all_push c.args.store.now c.pop.new.self.items c.in-Cons.tail (all_pop c.args.store.now c.pop.new.self.items c.in-Some.at are).0 c.in-Cons.ensures.first.1))
          c.in-Cons.ensures.first.0);
      left =
          c.loop-at.invariant.left
          ∙ list-left c.args.store.now c.loop-at.rest.items c.pop.new.self.items c.push-in-Cons.new.self.items c.push-in-Cons-2.new.self.items c.in-Some.at c.in-Cons.head c.in-Cons.tail c.in-Some.ensures.items c.in_ok-push-in-Cons.ensures.items c.in_ok-push-in-Cons-2.ensures.items c.in-Cons.ensures.first.2;
    }

pub loop-at-smaller : goal.loop-at-smaller
loop-at-smaller c = fewer c.args.store.now c.loop-at.rest.items c.pop.new.self.items c.in-Some.at c.in-Some.ensures.items

pub loop-at-preserved : goal.loop-at-preserved
loop-at-preserved c =
    let are : AllByRecursion (IsThere c.args.store.now) (c.pop.new.self.items ++ c.in-Some.at ∷ []) = subst (AllByRecursion (IsThere c.args.store.now)) c.in-Some.ensures.items c.loop-at.invariant.there in
    record {
      there = (all_pop c.args.store.now c.pop.new.self.items c.in-Some.at are).0;
      left =
          c.loop-at.invariant.left
          ∙ leaf-left c.args.store.now c.look.result c.loop-at.rest.items c.pop.new.self.items c.in-Some.at c.in-Some.ensures.items c.in_default-look.not-Cons c.in_default-look.not-Unbound c.look.ensures.first;
    }
