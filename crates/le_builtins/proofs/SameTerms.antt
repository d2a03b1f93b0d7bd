-- The test on two terms says whether they are the same, and terms without variables are bound.
use Rattle.std.proofs.Common.{◌≡◌, ◌==◌, Bool, ◌&&◌, [], ◌∷◌, refl, ap, ◌∙◌}
use Rattle.std.specs.Bool.{Decides}
use Rattle.std.specs.Ordering.{int_eq}
use Rattle.std.proofs.lemmas.Bool.Decides.{Decides-eqb, Decides-int_eq, Decides-and, Decides-like, same_from_decides}
use Rattle.le_terms.specs.Tree.{Tree, constant, number, date, variable, nil, cell}
use Rattle.le_terms.specs.Variables.{IsGround}
use Rattle.le_builtins.specs.Sentences.{no_variable}
use Rattle.le_builtins.specs.Compute.{Saying, is_same, answered, settled}

pub is_same-decides : (a b : Tree) → Decides (is_same a b) (a ≡ b)
is_same-decides (constant m) (constant n) = Decides-like (m == n) (λ same. ap constant same) (λ same. let inner : m ≡ n = (cc) in inner) (Decides-eqb m n)
is_same-decides (constant m) (number y) = (λ same. (cc), λ same. (cc))
is_same-decides (constant m) (date y) = (λ same. (cc), λ same. (cc))
is_same-decides (constant m) (variable w) = (λ same. (cc), λ same. (cc))
is_same-decides (constant m) nil = (λ same. (cc), λ same. (cc))
is_same-decides (constant m) (cell head' tail') = (λ same. (cc), λ same. (cc))
is_same-decides (number x) (constant n) = (λ same. (cc), λ same. (cc))
is_same-decides (number x) (number y) = Decides-like (int_eq x y) (λ same. ap number same) (λ same. let inner : x ≡ y = (cc) in inner) (Decides-int_eq x y)
is_same-decides (number x) (date y) = (λ same. (cc), λ same. (cc))
is_same-decides (number x) (variable w) = (λ same. (cc), λ same. (cc))
is_same-decides (number x) nil = (λ same. (cc), λ same. (cc))
is_same-decides (number x) (cell head' tail') = (λ same. (cc), λ same. (cc))
is_same-decides (date x) (constant n) = (λ same. (cc), λ same. (cc))
is_same-decides (date x) (number y) = (λ same. (cc), λ same. (cc))
is_same-decides (date x) (date y) = Decides-like (int_eq x y) (λ same. ap date same) (λ same. let inner : x ≡ y = (cc) in inner) (Decides-int_eq x y)
is_same-decides (date x) (variable w) = (λ same. (cc), λ same. (cc))
is_same-decides (date x) nil = (λ same. (cc), λ same. (cc))
is_same-decides (date x) (cell head' tail') = (λ same. (cc), λ same. (cc))
is_same-decides (variable v) (constant n) = (λ same. (cc), λ same. (cc))
is_same-decides (variable v) (number y) = (λ same. (cc), λ same. (cc))
is_same-decides (variable v) (date y) = (λ same. (cc), λ same. (cc))
is_same-decides (variable v) (variable w) = Decides-like (v == w) (λ same. ap variable same) (λ same. let inner : v ≡ w = (cc) in inner) (Decides-eqb v w)
is_same-decides (variable v) nil = (λ same. (cc), λ same. (cc))
is_same-decides (variable v) (cell head' tail') = (λ same. (cc), λ same. (cc))
is_same-decides nil (constant n) = (λ same. (cc), λ same. (cc))
is_same-decides nil (number y) = (λ same. (cc), λ same. (cc))
is_same-decides nil (date y) = (λ same. (cc), λ same. (cc))
is_same-decides nil (variable w) = (λ same. (cc), λ same. (cc))
is_same-decides nil nil = (λ _. refl, λ _. refl)
is_same-decides nil (cell head' tail') = (λ same. (cc), λ same. (cc))
is_same-decides (cell head tail) (constant n) = (λ same. (cc), λ same. (cc))
is_same-decides (cell head tail) (number y) = (λ same. (cc), λ same. (cc))
is_same-decides (cell head tail) (date y) = (λ same. (cc), λ same. (cc))
is_same-decides (cell head tail) (variable w) = (λ same. (cc), λ same. (cc))
is_same-decides (cell head tail) nil = (λ same. (cc), λ same. (cc))
is_same-decides (cell head tail) (cell head' tail') = Decides-like (is_same head head' && is_same tail tail') (λ same. ap (λ t. cell t tail) same.0 ∙ ap (cell head') same.1) (λ same. (let first : head ≡ head' = (cc) in first, let second : tail ≡ tail' = (cc) in second)) (Decides-and (is_same head head') (is_same tail tail') (is_same-decides head head') (is_same-decides tail tail'))

-- another test on two terms gives the same
pub is_same-is : (a b : Tree) (same : Bool) → Decides same (a ≡ b) → same ≡ is_same a b
is_same-is a b same h = same_from_decides same (is_same a b) h (is_same-decides a b)

-- two terms without variables
pub answered-ground : (a b : Tree) (saying : Saying) → IsGround a → IsGround b → settled saying ≡ answered (no_variable ∷ no_variable ∷ []) (a ∷ b ∷ []) saying
answered-ground a b saying first second = rw (first, second) refl
