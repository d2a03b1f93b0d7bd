use Rattle.std.proofs.Common.{rules, ◌≡◌, ◌+◌, ◌-◌, ◌++◌, ◌∙◌, List, reverse, take, drop, sym, ap, ap₂, subst, ◌∷◌}
use Rattle.std.proofs.lemmas.List.{take-append-drop, reverse-append}
use Rattle.le_proofs.specs.declared.node.Node.{Node}
use Rattle.le_proofs.specs.Replay.{behind}
use Rattle.le_derivations.specs.Paths.{with_count}
use Rattle.le_derivations.proofs.GoingUp.{goes-up}
use Rattle.le_derivations.proofs.proving.add_step.Goals as goal

pub returns : goal.returns
returns c = λ abstract leaf is are.
    let old : List Node = c.args.proving.now.nodes.items in
    let at = c.in_ok-at.at in
    let more : c.in-Some.proofs ≡ (c.args.proving.now.proofs - c.taken_proofs-taken.result) + 1 = search rules in
    let same : c.deref.result.now ≡ old = search rules in
    let back : reverse (take at old) ≡ behind c.args.step.now.place (reverse old) = subst (λ ns. reverse (take at ns) ≡ behind c.args.step.now.place (reverse ns)) same c.in_ok-at.ensures.behind in
    let below : c.as_slice.result.now ≡ c.args.step.now.below = search rules in
    let parted : reverse (drop at old) ++ behind c.args.step.now.place (reverse old) ≡ reverse old =
    ap (λ ns. reverse (drop at old) ++ ns) (sym back) ∙ (sym (reverse-append (take at old) (drop at old)) ∙ ap reverse (take-append-drop at old)) in
    goes-up c.args.step.now abstract leaf (reverse old) (reverse (drop at old)) (reverse c.put_in.new.nodes.items) c.args.proving.now.proofs c.taken_proofs-taken.result c.in-Some.proofs
    c.args.proving.now.by c.put_after.new.self c.with_count-first.result is are c.in_ok-put_after.ensures c.taken_proofs-taken.ensures more
    (c.with_count-first.ensures ∙ ap (with_count c.taken_proofs-taken.result) c.in_ok-node.ensures) parted
    (c.in_ok-put_in.ensures ∙ ap₂ (λ b ns. reverse (drop at old) ++ (c.with_count-first.result ∷ (b ++ ns))) below back)
