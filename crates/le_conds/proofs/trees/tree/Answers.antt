use Rattle.std.proofs.Common.{◌-◌, ◌++◌, [], ◌∙◌, sym, ap, arith, length, drop, reverse, get_or, List, None, append-nil, true}
use Rattle.std.proofs.lemmas.List.{reverse-reverse}
use Rattle.le_conds.specs.declared.entry.Entry.{Entry}
use Rattle.le_conds.specs.Members.{members_of, tree_of}
use Rattle.le_conds.specs.Trees.{flat}
use Rattle.le_conds.specs.Faults.{item_faults, each_fault, block_faults, least_onto}
use Rattle.le_conds.specs.Stack.{stacked, turned, closing}
use Rattle.le_conds.proofs.StackLaws.{all_pushed}
use Rattle.le_conds.proofs.StackLemmas.{drop_none, least-append}
use Rattle.le_conds.proofs.LoopLemmas.{no_entry, members_back, faults_back, members_none, faults_none}
use Rattle.le_conds.proofs.trees.tree.Goals as goal

pub loop-k-init : goal.loop-k-init
loop-k-init c =
    let es = c.args.entries.now in
    record {
      high = omega arith;
      few = omega (arith, c.new-waiting.ensures.len);
      waiting = c.new-waiting.ensures.items ∙ ap stacked (sym (members_none es));
      nodes = c.new-nodes.ensures.items ∙ ap turned (sym (members_none es));
      fault = ap (λ fs. least_onto fs None) (sym (faults_none es));
    }

pub loop-k-preserved : goal.loop-k-preserved
loop-k-preserved c =
    let es = c.args.entries.now in
    let k = c.loop-k.k in
    let i = c.loop-k.invariant in
    let ms = members_of (drop (length es - k) es) in
    record {
      high = omega arith;
      few = omega (arith, c.in_ok-fault.ensures.few, i.few);
      waiting = c.in_ok-fault.ensures.waiting ms i.waiting ∙ ap stacked (sym (members_back es k c.loop-k-test.true));
      nodes = c.in_ok-fault.ensures.nodes ms i.waiting i.nodes ∙ ap turned (sym (members_back es k c.loop-k-test.true));
      fault = c.in_ok-fault.ensures.fault ms i.waiting ∙ ap (least_onto (item_faults (get_or es (length es - 1 - k) no_entry) ms)) i.fault ∙ sym (faults_back es k None c.loop-k-test.true);
    }

pub returns-clause-fault : goal.returns-clause-fault
returns-clause-fault c =
    let es = c.args.entries.now in
    let k = c.loop-k.k in
    let i = c.loop-k.invariant in
    let all = drop_none es k c.loop-k-test.false in
    let ms = members_of es in
    c.block_fault-fault.ensures ms (c.as_slice.ensures.value ∙ i.waiting ∙ ap (λ (xs : List Entry). stacked (members_of xs)) all)
    ∙ ap (least_onto (block_faults true ms)) (i.fault ∙ ap (λ (xs : List Entry). least_onto (each_fault xs) None) all)
    ∙ sym (least-append (block_faults true ms) (each_fault es) None)

pub returns-clause-nodes : goal.returns-clause-nodes
returns-clause-nodes c =
    let es = c.args.entries.now in
    let k = c.loop-k.k in
    let i = c.loop-k.invariant in
    let all = drop_none es k c.loop-k-test.false in
    let ms = members_of es in
    let turns = i.nodes ∙ ap (λ (xs : List Entry). turned (members_of xs)) all in
    c.reverse.ensures.items
    ∙ ap reverse
    (c.in_ok-close_plain.ensures ms [] (c.as_slice-2.ensures.value ∙ i.waiting ∙ ap (λ (xs : List Entry). stacked (members_of xs)) all) (turns ∙ ap turned (sym (append-nil ms)))
    ∙ ap (λ xs. xs ++ closing [] ms) turns
    ∙ sym (all_pushed es))
    ∙ reverse-reverse (flat (tree_of es))
