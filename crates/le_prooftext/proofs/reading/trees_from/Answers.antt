use Rattle.std.proofs.Common.{◌≡◌, ◌+◌, ◌-◌, ◌<◌, drop, length, None, sym, ap, ◌∙◌, subst, arith, length-drop}
use Rattle.le_terms.specs.Tree.{BeginsWith}
use Rattle.le_prooftext.specs.Reading.{trees_from}
use Rattle.le_prooftext.proofs.TreeLemmas.{puts, puts-tree, trees_from-none, tree_step, to_end}
use Rattle.le_prooftext.proofs.reading.trees_from.Goals as goal

pub returns-in_default : goal.returns-in_default
returns-in_default c =
    let left = drop c.loop-at.at c.args.symbols.now in
    let some : 0 < length (drop c.loop-at.at c.args.symbols.now) = omega (arith, length-drop c.loop-at.at c.args.symbols.now) in
    let same = to_end c.args.symbols.now c.loop-at.at (length c.args.symbols.now - c.loop-at.at) (omega arith) in
    let none : trees_from (drop c.loop-at.at c.args.symbols.now) ≡ None =
    trees_from-none (drop c.loop-at.at c.args.symbols.now) some (λ tree begins. cc (c.in_default.is, c.in_ok-term.ensures.every tree (subst (BeginsWith tree) (sym same) begins))) in
    sym (c.loop-at.invariant.all ∙ ap (puts c.loop-at.terms.items) none)

pub loop-at-preserved : goal.loop-at-preserved
loop-at-preserved c =
    let same = to_end c.args.symbols.now c.loop-at.at (length c.args.symbols.now - c.loop-at.at) (omega arith) in
    let found = rw c.in-Some.is at c.in_ok-term.ensures.found in
    let begins : BeginsWith c.in-Some.term (drop c.loop-at.at c.args.symbols.now) = subst (BeginsWith c.in-Some.term) same found in
    let step = tree_step c.args.symbols.now c.loop-at.at (c.loop-at.at + length c.as_syms.result.now) c.in-Some.term begins (ap (λ symbols. c.loop-at.at + length symbols) c.as_syms.ensures.symbols) c.loop-at.invariant.within in
    record {
      all = c.loop-at.invariant.all
          ∙ (ap (puts c.loop-at.terms.items) step.read
          ∙ (puts-tree c.loop-at.terms.items c.in-Some.term _
          ∙ ap (λ items. puts items (trees_from (drop (c.loop-at.at + length c.as_syms.result.now) c.args.symbols.now))) (sym c.in_ok-push.ensures.items)));
      within = step.within;
    }
