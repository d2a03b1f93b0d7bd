-- An admitted derivation is the nodes of proofs by the program, and its explanation has their lines.
use Rattle.std.proofs.Common.{◌≡◌, ℕ, suc, List, [], ◌∷◌, ◌++◌, length, map, refl, sym, ap, ◌∙◌, append-nil}
use Rattle.le_templates.specs.declared.part.Template.{Template}
use Rattle.le_terms.specs.Tree.{Tree}
use Rattle.le_terms.specs.declared.program.Program.{Program}
use Rattle.le_proofs.specs.declared.node.Node.{Node}
use Rattle.le_proofs.specs.declared.node.Node.TheVariants.{Use, Compute, Absent, Gather, Split, Branch, Computed, Lacking, Present, Gathered, Ungathered, Success, Dead}
use Rattle.le_proofs.specs.Goals.{terms_under, asked_terms}
use Rattle.le_proofs.specs.Proofs.{packed}
use Rattle.le_proofs.specs.Derivations.{Certificate, certificate, proofs_nodes, node_under, numbered, scoped, parts_of, scope_below, times, told_apart, nodes_terms}
use Rattle.le_proofs.specs.Lloyd.{Admits, WholeBelow, goal_variables}
use Rattle.le_proofs.proofs.Shapes.{bare}
use Rattle.le_english.specs.Explanations.{explanation}
use Rattle.le_english.specs.Proofs.{AreByProgram, HasLines}
use Rattle.le_english.proofs.Refuted.{refuted}
use Rattle.le_english.proofs.Reshaped.{LikeProofs, like-proofs}
use Rattle.le_english.proofs.ProofLines.{explains}

-- numbering keeps the shape of nodes
bare-under : (by : ℕ → Tree) (node : Node) → bare (node_under by node) ≡ bare node
bare-under by (Use clause count atom) = refl
bare-under by (Compute atom) = refl
bare-under by (Absent atom) = refl
bare-under by (Gather fold result value atom) = refl
bare-under by (Split count) = refl
bare-under by (Branch clause) = refl
bare-under by Computed = refl
bare-under by Lacking = refl
bare-under by Present = refl
bare-under by Gathered = refl
bare-under by Ungathered = refl
bare-under by Success = refl
bare-under by Dead = refl

bares-under : (by : ℕ → Tree) (nodes : List Node) → map bare (map (node_under by) nodes) ≡ map bare nodes
bares-under by [] = refl
bares-under by (node ∷ nodes) = ap (λ n. n ∷ map bare (map (node_under by) nodes)) (bare-under by node) ∙ ap (λ ns. bare node ∷ ns) (bares-under by nodes)

bare-scoped : (count number : ℕ) (scopes : List ℕ) (nodes : List Node) → map bare (scoped count number scopes nodes) ≡ map bare nodes
bare-scoped count number [] [] = refl
bare-scoped count number (scope ∷ scopes) [] = refl
bare-scoped count number [] (node ∷ nodes) = ap (λ ns. bare node ∷ ns) (bare-scoped count (suc number) [] nodes)
bare-scoped count number (scope ∷ scopes) (node ∷ nodes) =
    ap (λ n. n ∷ map bare (scoped count (suc number) (times (parts_of node) (scope_below number scope node) scopes) nodes)) (bare-under (told_apart count scope) node)
    ∙ ap (λ ns. bare node ∷ ns) (bare-scoped count (suc number) (times (parts_of node) (scope_below number scope node) scopes) nodes)

certificate-bare : (terms : List Tree) (parts : ℕ) (nodes : List Node) → map bare (certificate terms parts nodes).nodes ≡ map bare nodes
certificate-bare terms parts nodes =
    bares-under (numbered (terms_under (told_apart (length nodes) 0) terms ++ nodes_terms (scoped (length nodes) 1 (times parts 0 []) nodes))) (scoped (length nodes) 1 (times parts 0 []) nodes)
    ∙ bare-scoped (length nodes) 1 (times parts 0 []) nodes

none-bare : (nodes : List Node) → map bare nodes ≡ [] → nodes ≡ []
none-bare [] same = refl
none-bare (node ∷ nodes) same = absurd (cc same)

pub admitted-lines : (users : List Template) (names : List (List ℕ)) (program : Program) (nodes : List Node) (values : List Tree) → Admits program nodes values → HasLines users names program nodes
admitted-lines users names program nodes values admits =
    let own : List Node = proofs_nodes (packed admits.proofs) in
    let made : Certificate = certificate (terms_under admits.by (asked_terms program.asked)) (length admits.proofs) own in
    let same_nodes : made.nodes ≡ nodes = ap (λ (c : Certificate). c.nodes) admits.same in
    let shape : map bare nodes ≡ map bare own ++ [] =
    ap (map bare) (sym same_nodes) ∙ (certificate-bare (terms_under admits.by (asked_terms program.asked)) (length admits.proofs) own ∙ sym (append-nil (map bare own))) in
    let like : LikeProofs (packed admits.proofs) nodes [] = like-proofs (packed admits.proofs) nodes [] shape in
    let all : proofs_nodes like.them ≡ nodes = sym (like.all ∙ (ap (λ ns. proofs_nodes like.them ++ ns) (none-bare like.rest like.left) ∙ append-nil (proofs_nodes like.them))) in
    let is : AreByProgram program program.query like.them = like.fits program program.query (refuted program (WholeBelow admits.rank program) (goal_variables program.query (asked_terms program.asked)) program.query admits.proofs admits.by admits.refutes) in
    record { proofs = like.them; nodes_ = all; by_program = is; lines = ap (explanation users names program) (sym all) ∙ explains users names program like.them is }
