-- Parts that are passed: each node takes one and adds those below it.
use Rattle.std.proofs.Common.{◌≡◌, ◌⊎◌, inl, inr, ℕ, zero, suc, ◌+◌, ◌-◌, ◌<◌, ◌≤◌, ◌==◌, false, get_or, drop, List, [], ◌∷◌, length, refl, sym, ap, ◌∙◌, arith}
use Rattle.std.specs.Prelude.{if◌then◌else◌}
use Rattle.std.proofs.lemmas.Bool.{ne_eqb}
use Rattle.std.proofs.lemmas.List.{drop_more}
use Rattle.le_templates.specs.declared.part.Template.{Template}
use Rattle.le_terms.specs.declared.program.Program.{Program}
use Rattle.le_proofs.specs.declared.node.Node.{Node}
use Rattle.le_proofs.specs.declared.node.Node.TheVariants.{Use, Compute, Absent, Gather, Split, Branch, Computed, Lacking, Present, Gathered, Ungathered, Success, Dead}
use Rattle.le_proofs.specs.Derivations.{parts_of}
use Rattle.le_proofs.specs.Replay.{behind}
use Rattle.le_english.specs.declared.pending.Pending.{Pending}
use Rattle.le_english.specs.Explanations.{own_leaf, own_parts, leaves, lines_of}
use Rattle.le_english.specs.Walks.{leaf_at, others_after, own_after}

behind-suc : (parts n : ℕ) (node : Node) (nodes : List Node) → parts ≡ suc n → behind parts (node ∷ nodes) ≡ behind (parts_of node + n) nodes
behind-suc parts n node nodes is = ap (λ m. behind m (node ∷ nodes)) is

-- the parts of the same tree are among the parts
own-most : (node : Node) → own_parts node ≤ parts_of node
own-most (Use clause count atom) = omega arith
own-most (Compute atom) = omega arith
own-most (Absent atom) = omega arith
own-most (Gather fold result value atom) = omega arith
own-most (Split count) = omega arith
own-most (Branch clause) = omega arith
own-most Computed = omega arith
own-most Lacking = omega arith
own-most Present = omega arith
own-most Gathered = omega arith
own-most Ungathered = omega arith
own-most Success = omega arith
own-most Dead = omega arith

-- the leaves of parts, a node on
pub leaves-step : (others own : ℕ) (node : Node) (nodes : List Node) → (0 < others) ⊎ (0 < own) →
    leaves others own (node ∷ nodes) ≡ leaf_at others node + leaves (others_after others node) (own_after others own node) nodes
leaves-step (suc others) own node nodes some =
    let no : (suc others == 0) ≡ false = ne_eqb (suc others) 0 (λ (h : suc others ≡ 0). omega (arith, h)) in
    let e : parts_of node + others ≡ parts_of node + (suc others - 1) = omega arith in
    let z : leaves (parts_of node + (suc others - 1)) own nodes ≡ 0 + leaves (parts_of node + (suc others - 1)) own nodes = omega arith in
    ap (λ n. leaves n own nodes) e
    ∙ (z ∙ sym (ap (λ b. (if b then own_leaf node else 0) + leaves (if b then parts_of node - own_parts node else parts_of node + (suc others - 1)) (if b then own_parts node + (own - 1) else own) nodes) no))
leaves-step zero (suc own) node nodes some =
    let e : own_parts node + own ≡ own_parts node + (suc own - 1) = omega arith in
    ap (λ n. own_leaf node + leaves (parts_of node - own_parts node) n nodes) e
leaves-step zero zero node nodes some = absurd (elim some [ inl h ↦ omega (arith, h) | inr h ↦ omega (arith, h) ])

-- what stands after parts, a node on
pub behind-step : (others own : ℕ) (node : Node) (nodes : List Node) → (0 < others) ⊎ (0 < own) →
    behind (others + own) (node ∷ nodes) ≡ behind (others_after others node + own_after others own node) nodes
behind-step (suc others) own node nodes some =
    let no : (suc others == 0) ≡ false = ne_eqb (suc others) 0 (λ (h : suc others ≡ 0). omega (arith, h)) in
    let e : suc others + own ≡ suc (others + own) = omega arith in
    let z : parts_of node + (others + own) ≡ (parts_of node + (suc others - 1)) + own = omega arith in
    behind-suc (suc others + own) (others + own) node nodes e
    ∙ (ap (λ n. behind n nodes) z
    ∙ sym (ap (λ b. behind ((if b then parts_of node - own_parts node else parts_of node + (suc others - 1)) + (if b then own_parts node + (own - 1) else own)) nodes) no))
behind-step zero (suc own) node nodes some =
    let most : own_parts node ≤ parts_of node = own-most node in
    let e : 0 + suc own ≡ suc own = omega arith in
    let z : parts_of node + own ≡ (parts_of node - own_parts node) + (own_parts node + (suc own - 1)) = omega (arith, most) in
    behind-suc (0 + suc own) own node nodes e ∙ ap (λ n. behind n nodes) z
behind-step zero zero node nodes some = absurd (elim some [ inl h ↦ omega (arith, h) | inr h ↦ omega (arith, h) ])

-- no part has a leaf
pub leaves-none : (nodes : List Node) → leaves 0 0 nodes ≡ 0
leaves-none [] = refl
leaves-none (node ∷ nodes) = refl

pub leaves-end : (others own : ℕ) → leaves others own [] ≡ 0
leaves-end others own = refl

pub behind-end : (parts : ℕ) → behind parts [] ≡ []
behind-end zero = refl
behind-end (suc parts) = refl

-- so many parts aren't shown
pub lines-unshown : (users : List Template) (names : List (List ℕ)) (program : Program) (pending : List Pending) (unshown : ℕ) (nodes : List Node) →
    lines_of users names program unshown pending nodes ≡ lines_of users names program 0 pending (behind unshown nodes)
lines-unshown users names program pending unshown [] = ap (λ ns. lines_of users names program 0 pending ns) (sym (behind-end unshown))
lines-unshown users names program pending zero (node ∷ nodes) = refl
lines-unshown users names program pending (suc unshown) (node ∷ nodes) = lines-unshown users names program pending (parts_of node + unshown) nodes

-- the nodes from one on
pub rest-from : (xs : List Node) (i : ℕ) (x d : Node) → i < length xs → get_or xs i d ≡ x → drop i xs ≡ x ∷ drop (i + 1) xs
rest-from xs i x d low is = drop_more xs i d low ∙ ap (λ y. y ∷ drop (i + 1) xs) is

-- a walk over parts, a node on
pub walk-leaves : (nodes : List Node) (i : ℕ) (x d : Node) (others own k total : ℕ) → i < length nodes → get_or nodes i d ≡ x → (0 < others) ⊎ (0 < own) →
    k + leaves others own (drop i nodes) ≡ total → k + leaf_at others x + leaves (others_after others x) (own_after others own x) (drop (i + 1) nodes) ≡ total
walk-leaves nodes i x d others own k total low is some so_far =
    let step : leaves others own (drop i nodes) ≡ leaf_at others x + leaves (others_after others x) (own_after others own x) (drop (i + 1) nodes) =
    ap (leaves others own) (rest-from nodes i x d low is) ∙ leaves-step others own x (drop (i + 1) nodes) some in
    let e : k + leaf_at others x + leaves (others_after others x) (own_after others own x) (drop (i + 1) nodes) ≡ k + (leaf_at others x + leaves (others_after others x) (own_after others own x) (drop (i + 1) nodes)) = omega arith in
    e ∙ (ap (λ n. k + n) (sym step) ∙ so_far)

pub walk-rest : (nodes : List Node) (i : ℕ) (x d : Node) (others own : ℕ) (all : List Node) → i < length nodes → get_or nodes i d ≡ x → (0 < others) ⊎ (0 < own) →
    behind (others + own) (drop i nodes) ≡ all → behind (others_after others x + own_after others own x) (drop (i + 1) nodes) ≡ all
walk-rest nodes i x d others own all low is some so_far =
    sym (ap (behind (others + own)) (rest-from nodes i x d low is) ∙ behind-step others own x (drop (i + 1) nodes) some) ∙ so_far

-- once no part is left, the leaves so far are all
pub parts-end : (k others own total : ℕ) (nodes : List Node) → others ≡ 0 → own ≡ 0 → k + leaves others own nodes ≡ total → k ≡ total
parts-end k others own total nodes a b all =
    let none : leaves others own nodes ≡ 0 = ap (λ n. leaves n own nodes) a ∙ (ap (λ n. leaves 0 n nodes) b ∙ leaves-none nodes) in
    let e : k ≡ k + leaves others own nodes = omega (arith, none) in
    e ∙ all
