-- Terms, atoms and nodes that are the same.
use Rattle.std.proofs.Common.{◌≡◌, ◌≢◌, ◌==◌, Bool, true, false, length, arith, ◌&&◌, List, [], ◌∷◌, refl, ap, ◌∙◌}
use Rattle.std.specs.Bool.{Decides}
use Rattle.std.proofs.lemmas.Bool.Decides.{Decides-eqb, Decides-and, Decides-like, same_from_decides}
use Rattle.le_terms.specs.Tree.{Tree}
use Rattle.le_terms.specs.declared.program.Atom.{Atom}
use Rattle.le_builtins.specs.Compute.{is_same}
use Rattle.le_builtins.proofs.SameTerms.{is_same-decides}
use Rattle.le_proofs.specs.Replay.{same_terms, same_atom, same_node, same_nodes}
use Rattle.le_proofs.specs.declared.node.Node.{Node}

same-terms-decides : (xs ys : List Tree) → Decides (same_terms xs ys) (xs ≡ ys)
same-terms-decides [] [] = (λ _. refl, λ _. refl)
same-terms-decides [] (y ∷ ys) = (λ same. (cc), λ same. (cc))
same-terms-decides (x ∷ xs) [] = (λ same. (cc), λ same. (cc))
same-terms-decides (x ∷ xs) (y ∷ ys) =
    Decides-like (is_same x y && same_terms xs ys) (λ same. ap (λ z. z ∷ xs) same.0 ∙ ap (λ zs. y ∷ zs) same.1)
    (λ same. (let first : x ≡ y = (cc) in first, let second : xs ≡ ys = (cc) in second))
    (Decides-and (is_same x y) (same_terms xs ys) (is_same-decides x y) (same-terms-decides xs ys))

-- a test on two atoms gives the same
pub same-atom-is : (a b : Atom) (same : Bool) → Decides same (a ≡ b) → same ≡ same_atom a b
same-atom-is a b same h =
    same_from_decides same (same_atom a b) h
    (Decides-like (a.pred == b.pred && same_terms a.args b.args)
    (λ both. ap (λ p. let x : Atom = record { pred = p; args = a.args } in x) both.0 ∙ ap (λ ts. let x : Atom = record { pred = b.pred; args = ts } in x) both.1)
    (λ one. (ap (λ (x : Atom). x.pred) one, ap (λ (x : Atom). x.args) one))
    (Decides-and (a.pred == b.pred) (same_terms a.args b.args) (Decides-eqb a.pred b.pred) (same-terms-decides a.args b.args)))

-- nodes of other lengths aren't the same
pub other-lengths : (as_ bs : List Node) → length as_ ≢ length bs → same_nodes as_ bs ≡ false
other-lengths [] [] other = absurd (other refl)
other-lengths [] (b ∷ bs) other = refl
other-lengths (a ∷ as_) [] other = refl
other-lengths (a ∷ as_) (b ∷ bs) other = by (same_node a b) (other-lengths as_ bs (λ same. other (let longer : length (a ∷ as_) ≡ length (b ∷ bs) = omega (arith, same) in longer)))
  where
    by : (here : Bool) → same_nodes as_ bs ≡ false → (here && same_nodes as_ bs) ≡ false
    by true rest = rest
    by false rest = refl
