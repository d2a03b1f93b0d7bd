-- Parts of a derivation that are passed over, one after another.
use Rattle.std.proofs.Common.{◌≡◌, ◌≢◌, ⊎_elim, ℕ, zero, suc, ◌+◌, ◌-◌, ◌<◌, ◌≤◌, List, [], ◌∷◌, ◌++◌, append_assoc, append-nil, drop, set, length, get_or, refl, sym, ap, ◌∙◌, subst, arith}
use Rattle.std.proofs.lemmas.Bool.{cases_eq}
use Rattle.le_terms.proofs.Preorder.{drop-item}
use Rattle.std.proofs.lemmas.List.{map-append, length-drop, length-set, drop_all, get_or-set_same, get_or-set_other}
use Rattle.le_proofs.specs.declared.node.Node.{Node}
use Rattle.le_proofs.specs.Derivations.{parts_of}
use Rattle.le_proofs.specs.Replay.{behind, beginnings}
use Rattle.le_check.specs.Parts.{IsPartEnd, EndFrom, ArePartEnds, AreInside, nodes_from}

pub behind-none : (n : ℕ) → behind n [] ≡ []
behind-none zero = refl
behind-none (suc n) = refl

-- parts after others
pub behind-more : (m n : ℕ) (nodes : List Node) → behind (m + n) nodes ≡ behind n (behind m nodes)
behind-more zero n nodes =
    let none : 0 + n ≡ n = omega arith in
    ap (λ k. behind k nodes) none
behind-more (suc m) n [] = behind-none (suc m + n) ∙ sym (behind-none n)
behind-more (suc m) n (node ∷ nodes) =
    let one : suc m + n ≡ suc (m + n) = omega arith in
    let all : parts_of node + (m + n) ≡ (parts_of node + m) + n = omega arith in
    ap (λ k. behind k (node ∷ nodes)) one ∙ (ap (λ k. behind k nodes) all ∙ behind-more (parts_of node + m) n nodes)

-- no nodes come from passing over parts
pub behind-short : (n : ℕ) (nodes : List Node) → length (behind n nodes) ≤ length nodes
behind-short zero nodes = omega arith
behind-short (suc n) [] = omega arith
behind-short (suc n) (node ∷ nodes) =
    let below : length (behind (parts_of node + n) nodes) ≤ length nodes = behind-short (parts_of node + n) nodes in
    omega arith

-- one part more is passed over
pub one-more : (nodes : List Node) (ends : List ℕ) (from count at left next : ℕ) → EndFrom nodes ends from → from ≤ at → at < length nodes → 0 < left → next ≡ get_or ends at 0 → behind left (drop at nodes) ≡ behind count (drop from nodes)
    → (from ≤ next) × (next ≤ length nodes) × (behind (left - 1) (drop next nodes) ≡ behind count (drop from nodes))
one-more nodes ends from count at left next is low inside some read before =
    let end : IsPartEnd nodes at next = subst (IsPartEnd nodes at) (sym read) (is.each at low inside) in
    let long : length (drop next nodes) ≡ length nodes - next = length-drop next nodes in
    let long' : length (drop at nodes) ≡ length nodes - at = length-drop at nodes in
    let short : length (behind 1 (drop at nodes)) ≤ length (drop at nodes) = behind-short 1 (drop at nodes) in
    let short' : length (drop next nodes) ≤ length (drop at nodes) = subst (λ ns. length ns ≤ length (drop at nodes)) (sym end.rest) short in
    let top : next ≤ length nodes = end.inside in
    let count_ : left ≡ 1 + (left - 1) = omega arith in (
      omega arith,
      top,
      ap (behind (left - 1)) end.rest ∙ (sym (behind-more 1 (left - 1) (drop at nodes)) ∙ (ap (λ k. behind k (drop at nodes)) (sym count_) ∙ before)),
    )

-- all are passed over at the end of the nodes
pub at-end-of : (nodes : List Node) (at left : ℕ) (rest : List Node) → length nodes ≤ at → behind left (drop at nodes) ≡ rest → drop at nodes ≡ rest
at-end-of nodes at left rest past before = drop_all at nodes past ∙ (sym (behind-none left) ∙ (ap (behind left) (sym (drop_all at nodes past)) ∙ before))

-- the end of the part that begins at a place
pub end-there : (nodes : List Node) (place end : ℕ) (node : Node) → place < length nodes → node ≡ get_or nodes place node → end ≤ length nodes → drop end nodes ≡ behind (parts_of node) (drop (place + 1) nodes) → IsPartEnd nodes place end
end-there nodes place end node within read inside rest =
    let one : parts_of node ≡ parts_of node + 0 = omega arith in
    record {
      inside = inside;
      rest = rest ∙ (ap (λ k. behind k (drop (place + 1) nodes)) one ∙ sym (ap (behind 1) (drop-item nodes place node within read)));
    }

-- the end from one place more
pub end-more : (nodes : List Node) (ends : List ℕ) (place end : ℕ) (node : Node) → place < length nodes → node ≡ get_or nodes place node → EndFrom nodes ends (place + 1) → end ≤ length nodes → drop end nodes ≡ behind (parts_of node) (drop (place + 1) nodes)
    → EndFrom nodes (set ends place end) place
end-more nodes ends place end node within read is inside rest =
    let same : length (set ends place end) ≡ length ends = length-set ends place end in
    let there : place < length ends = omega (arith, is.all) in
    record {
      all = same ∙ is.all;
      each = λ from low high. ⊎_elim
          (λ (h : from ≡ place). subst (λ f. IsPartEnd nodes f (get_or (set ends place end) f 0)) (sym h)
          (subst (IsPartEnd nodes place) (sym (get_or-set_same ends place end 0 there)) (end-there nodes place end node within read inside rest)))
          (λ (h : from ≢ place).
          let above : place + 1 ≤ from = omega arith in
          subst (IsPartEnd nodes from) (sym (get_or-set_other ends place from end 0 h)) (is.each from above high))
          (cases_eq from place);
    }

pub all-ends : (nodes : List Node) (ends : List ℕ) (place : ℕ) → place ≡ 0 → EndFrom nodes ends place → ArePartEnds nodes ends
all-ends nodes ends place none is = record { all = is.all; each = λ from high. is.each from (omega arith) high }

-- one place more
pub place-more : (nodes : List Node) (count done at next : ℕ) (places more : List ℕ) (all : List (List Node)) → done < count → more ≡ places ++ at ∷ [] → drop next nodes ≡ behind 1 (drop at nodes)
    → nodes_from nodes places ++ beginnings (count - done) (drop at nodes) ≡ all → nodes_from nodes more ++ beginnings (count - (done + 1)) (drop next nodes) ≡ all
place-more nodes count done at next places more all left pushed rest before =
    let one : count - done ≡ suc (count - (done + 1)) = omega arith in
    ap (λ ps. nodes_from nodes ps ++ beginnings (count - (done + 1)) (drop next nodes)) pushed
    ∙ (ap (λ ns. ns ++ beginnings (count - (done + 1)) (drop next nodes)) (map-append (λ place. drop place nodes) places (at ∷ []))
    ∙ (append_assoc (nodes_from nodes places) (drop at nodes ∷ []) (beginnings (count - (done + 1)) (drop next nodes))
    ∙ (ap (λ ns. nodes_from nodes places ++ (drop at nodes ∷ beginnings (count - (done + 1)) ns)) rest
    ∙ (sym (ap (λ n. nodes_from nodes places ++ beginnings n (drop at nodes)) one) ∙ before))))

pub inside-more : (nodes : List Node) (at : ℕ) (places more : List ℕ) → more ≡ places ++ at ∷ [] → at ≤ length nodes → AreInside nodes places → AreInside nodes more
inside-more nodes at places more pushed low before = subst (AreInside nodes) (sym pushed) (by places before)
  where
    by : (ps : List ℕ) → AreInside nodes ps → AreInside nodes (ps ++ at ∷ [])
    by [] h = (low, tt)
    by (p ∷ ps) h = (h.0, by ps h.1)

pub no-place : (nodes : List Node) (count done at : ℕ) (places : List ℕ) (all : List (List Node)) → count ≤ done → nodes_from nodes places ++ beginnings (count - done) (drop at nodes) ≡ all → nodes_from nodes places ≡ all
no-place nodes count done at places all past before =
    let none : count - done ≡ 0 = omega arith in
    sym (append-nil (nodes_from nodes places)) ∙ (ap (λ n. nodes_from nodes places ++ beginnings n (drop at nodes)) (sym none) ∙ before)
