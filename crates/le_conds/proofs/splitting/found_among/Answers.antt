use Rattle.std.proofs.Common.{◌∙◌, sym, ap, arith, subst, length, flat_map, None, List}
use Rattle.std.specs.List.{All}
use Rattle.le_conds.specs.declared.entry.Entry.{Entry}
use Rattle.le_conds.specs.Bounds.{IsItemOver, IsEntryOver}
use Rattle.le_conds.specs.Items.{items_of}
use Rattle.le_conds.specs.Trees.{flat}
use Rattle.le_conds.specs.Members.{tree_of}
use Rattle.le_conds.specs.Faults.{part_faults, shape_faults, condition_faults, least_of, least_onto}
use Rattle.le_conds.specs.Stack.{entries_seen}
use Rattle.le_conds.proofs.StackLemmas.{least-append}
use Rattle.le_conds.proofs.EntryLemmas.{seen_length, seen_over}
use Rattle.le_conds.proofs.AloneLemmas.{seen_tree, seen_faults}
use Rattle.le_conds.proofs.SoundLemmas.{tree_few}
use Rattle.le_conds.proofs.splitting.found_among.Goals as goal

pub tree-requires : goal.tree-requires
tree-requires c =
    let seen = ap length (c.as_slice-2.ensures.value ∙ c.in_ok-entries.ensures) ∙ seen_length c.args.layout.now c.args.place c.as_slice.result.now in
    omega (arith, seen, c.as_slice.ensures.len, c.in_ok-items.ensures.few, c.requires.inside, c.requires.layout.few, c.requires.layout.short)

pub parts_fault-fault-requires-clause-entries : goal.parts_fault-fault-requires-clause-entries
parts_fault-fault-requires-clause-entries c =
    let l = c.args.layout.now in
    let count = length l.tokens in
    subst (All (IsEntryOver count)) (sym (c.as_slice-3.ensures.value ∙ c.in_ok-entries.ensures))
    (seen_over l count c.args.place c.as_slice.result.now (subst (All (IsItemOver count)) (sym c.as_slice.ensures.value) c.in_ok-items.ensures.over.over))

pub returns-clause-fault : goal.returns-clause-fault
returns-clause-fault c =
    let l = c.args.layout.now in
    let es = c.in_ok-entries.entries.items in
    let same = c.in_ok-entries.ensures ∙ ap (entries_seen l c.args.place) (c.as_slice.ensures.value ∙ c.in_ok-items.ensures.exact) in
    c.parts_fault-fault.ensures
    ∙ ap (λ (xs : List Entry). least_onto (flat_map (part_faults l) xs) c.in_ok-found.found.fault) c.as_slice-3.ensures.value
    ∙ ap (least_onto (flat_map (part_faults l) es)) (c.in_ok-found.ensures.fault ∙ ap (λ (xs : List Entry). least_of (shape_faults xs)) c.as_slice-2.ensures.value)
    ∙ sym (least-append (flat_map (part_faults l) es) (shape_faults es) None)
    ∙ ap (λ (xs : List Entry). least_of (condition_faults l xs)) same
    ∙ ap least_of (seen_faults l c.args.place (items_of l c.args.from c.args.to))

pub returns-clause-nodes : goal.returns-clause-nodes
returns-clause-nodes c =
    let l = c.args.layout.now in
    let same = c.in_ok-entries.ensures ∙ ap (entries_seen l c.args.place) (c.as_slice.ensures.value ∙ c.in_ok-items.ensures.exact) in
    c.in_ok-found.ensures.nodes
    ∙ ap (λ (xs : List Entry). flat (tree_of xs)) (c.as_slice-2.ensures.value ∙ same)
    ∙ ap flat (seen_tree l c.args.place (items_of l c.args.from c.args.to))

pub returns-clause-few : goal.returns-clause-few
returns-clause-few c =
    let seen = ap length (c.as_slice-2.ensures.value ∙ c.in_ok-entries.ensures) ∙ seen_length c.args.layout.now c.args.place c.as_slice.result.now in
    let nodes = ap length c.in_ok-found.ensures.nodes in
    let few = tree_few c.as_slice-2.result.now in
    omega (arith, seen, nodes, few, c.as_slice.ensures.len, c.in_ok-items.ensures.few)
