use Rattle.std.proofs.Common.{rules, ◌≡◌, ◌∙◌, ◌++◌, ◌∷◌, [], List, reverse, take, ap}
use Rattle.le_proofs.specs.declared.node.Node.{Node}
use Rattle.le_derivations.proofs.Fronts.{put-in}
use Rattle.le_derivations.proofs.proving.put_in.Goals as goal

pub returns : goal.returns
returns c =
    let old : List Node = take c.args.at c.args.nodes.now.items in
    let nodes : List Node = c.push_reversed.new.nodes.items in
    let there : reverse nodes ≡ c.args.below.now ++ reverse old =
    c.in_ok-push_reversed.ensures ∙ ap (λ ns. c.args.below.now ++ reverse ns) c.in_ok-front.ensures.items in
    let joined : c.append.new.self.items ≡ c.push.new.self.items ++ c.in_ok-front.front.items = search rules in
    let all : c.append.new.self.items ≡ (nodes ++ c.args.node ∷ []) ++ c.in_ok-front.front.items =
    joined ∙ ap (λ ns. ns ++ c.in_ok-front.front.items) c.in_ok-push.ensures.items in
    put-in old nodes c.args.below.now c.in_ok-front.front.items c.args.node c.append.new.self.items there all
    ∙ ap (λ ns. reverse ns ++ (c.args.node ∷ (c.args.below.now ++ reverse old))) c.in_ok-front.ensures.tail
