-- Terms that are built in pairs.
use Rattle.std.proofs.Math.Nat.{min-eq_left, min-eq_right}
use Rattle.std.proofs.lemmas.Bool.{cases_lt}
use Rattle.std.proofs.Common.{◌≡◌, ◌⊎◌, inl, inr, ⊎_elim, min, ℕ, zero, suc, ◌+◌, ◌<◌, ◌≤◌, List, [], ◌∷◌, ◌++◌, length, get_or, drop, zip, refl, sym, ap, subst, ◌∙◌, append_assoc, append-nil, length-append, arith}
use Rattle.std.specs.List.{AllByRecursion}
use Rattle.std.proofs.lemmas.List.{get_or_append_left}
use Rattle.std.proofs.Math.Seq.{drop-cons}
use Rattle.le_terms.specs.Tree.{Tree, nil}
use Rattle.le_terms.specs.Variables.{replaced, occurrences, all_occurrences}
use Rattle.le_subst.specs.Unifiers.{Equation}
use Rattle.le_store.specs.Shown.{Shown, term_of, IsThere}
use Rattle.le_unify.specs.Unifying.{AreThere, equations_in}
use Rattle.le_unify.proofs.Work.{equations_in-push, there-push}
use Rattle.le_proofs.specs.Goals.{terms_under}
use Rattle.le_proofs.proofs.Alls.{all-left, all-right, all-weaken}
use Rattle.le_proofs.proofs.Variants.{replaced-there, terms-there}
use Rattle.le_goals.specs.Frames.{cell_term}
use Rattle.le_goals.specs.Unifying.{Extends, HasTerm, HasVariables, sides}

pub extends-none : (old : Shown) → Extends old old
extends-none old = record { more = []; terms_ = sym (append-nil old.now.terms); variables_ = refl; marks_ = refl }

pub extends-then : (old mid new : Shown) → Extends old mid → Extends mid new → Extends old new
extends-then old mid new first second = record {
  more = first.more ++ second.more;
  terms_ = second.terms_ ∙ (ap (λ ts. ts ++ second.more) first.terms_ ∙ append_assoc old.now.terms first.more second.more);
  variables_ = second.variables_ ∙ first.variables_;
  marks_ = second.marks_ ∙ first.marks_;
}

pub extends-length : (old new : Shown) → Extends old new → length old.now.terms ≤ length new.now.terms
extends-length old new extends =
    let count : length (old.now.terms ++ extends.more) ≡ length old.now.terms + length extends.more = length-append old.now.terms extends.more in
    let same : length new.now.terms ≡ length (old.now.terms ++ extends.more) = ap length extends.terms_ in
    omega (arith, count, same)

pub there-later : (old new : Shown) → Extends old new → (cell : ℕ) → IsThere old cell → IsThere new cell
there-later old new extends cell there = let more : length old.now.terms ≤ length new.now.terms = extends-length old new extends in omega (arith, more, there)

pub term-later : (old new : Shown) → Extends old new → (cell : ℕ) → IsThere old cell → term_of new cell ≡ term_of old cell
term-later old new extends cell there = ap (λ ts. get_or ts cell nil) extends.terms_ ∙ get_or_append_left old.now.terms extends.more nil cell there

pub all-there-later : (old new : Shown) → Extends old new → (base : ℕ) (vs : List ℕ) → AllByRecursion (λ v. IsThere old (base + v)) vs → AllByRecursion (λ v. IsThere new (base + v)) vs
all-there-later old new extends base vs there = all-weaken (λ v. IsThere old (base + v)) (λ v. IsThere new (base + v)) (λ v here. there-later old new extends (base + v) here) vs there

pub replaced-later : (old new : Shown) → Extends old new → (base : ℕ) (term : Tree) → AllByRecursion (λ v. IsThere old (base + v)) (occurrences term) → replaced (cell_term new.now base) term ≡ replaced (cell_term old.now base) term
replaced-later old new extends base term there =
    replaced-there (cell_term new.now base) (cell_term old.now base) term (all-weaken (λ v. IsThere old (base + v)) (λ v. cell_term new.now base v ≡ cell_term old.now base v) (λ v here. term-later old new extends (base + v) here) (occurrences term) there)

pub terms-later : (old new : Shown) → Extends old new → (base : ℕ) (terms : List Tree) → HasVariables old base terms → terms_under (cell_term new.now base) terms ≡ terms_under (cell_term old.now base) terms
terms-later old new extends base terms there =
    terms-there (cell_term new.now base) (cell_term old.now base) terms (all-weaken (λ v. IsThere old (base + v)) (λ v. cell_term new.now base v ≡ cell_term old.now base v) (λ v here. term-later old new extends (base + v) here) (all_occurrences terms) there)

pairs-there-later : (old new : Shown) → Extends old new → (pairs : List (ℕ × ℕ)) → AreThere old pairs → AreThere new pairs
pairs-there-later old new extends [] are = tt
pairs-there-later old new extends (pair ∷ pairs) are = ((there-later old new extends pair.0 are.0.0, there-later old new extends pair.1 are.0.1), pairs-there-later old new extends pairs are.1)

equations-later : (old new : Shown) → Extends old new → (pairs : List (ℕ × ℕ)) (following : List Equation) → AreThere old pairs → equations_in new.now pairs following ≡ equations_in old.now pairs following
equations-later old new extends [] following are = refl
equations-later old new extends (pair ∷ pairs) following are =
    ap (λ e. equations_in new.now pairs (e ∷ following)) (ap (λ t. (t, term_of new pair.1)) (term-later old new extends pair.0 are.0.0) ∙ ap (λ t. (term_of old pair.0, t)) (term-later old new extends pair.1 are.0.1))
    ∙ equations-later old new extends pairs ((term_of old pair.0, term_of old pair.1) ∷ following) are.1

-- the variables of one of some terms
pub one-there : (P : ℕ → Type 0) (terms : List Tree) (at : ℕ) (default : Tree) → at < length terms → AllByRecursion P (all_occurrences terms) → AllByRecursion P (occurrences (get_or terms at default))
one-there P [] at default low all = absurd (omega (arith, low))
one-there P (term ∷ terms) zero default low all = all-left P (occurrences term) (all_occurrences terms) all
one-there P (term ∷ terms) (suc at) default low all = one-there P terms at default (omega (arith, low)) (all-right P (occurrences term) (all_occurrences terms) all)

-- the terms of pairs so far
pub record PairedFrom (old now : Shown) (pairs : List (ℕ × ℕ)) (left : ℕ) (lefts : List Tree) (right : ℕ) (rights : List Tree) (at : ℕ) : Type 0 where
  pub extends : Extends old now
  pub there : AreThere now pairs
  pub equations : equations_in now.now pairs [] ≡ sides old left (drop at lefts) right (drop at rights)

zip-none : {X Y : Type 0} (xs : List X) → zip {K = X} {X = Y} xs [] ≡ []
zip-none [] = refl
zip-none (x ∷ xs) = refl

drop-all : {X : Type 0} (n : ℕ) (xs : List X) → length xs ≤ n → drop n xs ≡ []
drop-all zero [] low = refl
drop-all zero (x ∷ xs) low = absurd (omega (arith, low))
drop-all (suc n) [] low = refl
drop-all (suc n) (x ∷ xs) low = drop-all n xs (omega (arith, low))

sides-left : (old : Shown) (left right at : ℕ) (lefts rights : List Tree) → length lefts ≤ at → sides old left (drop at lefts) right (drop at rights) ≡ []
sides-left old left right at lefts rights low = ap (λ ts. sides old left ts right (drop at rights)) (drop-all at lefts low)

sides-right : (old : Shown) (left right at : ℕ) (lefts rights : List Tree) → length rights ≤ at → sides old left (drop at lefts) right (drop at rights) ≡ []
sides-right old left right at lefts rights low = ap (λ ts. sides old left (drop at lefts) right ts) (drop-all at rights low) ∙ zip-none (terms_under (cell_term old.now left) (drop at lefts))

pub paired-none : (old : Shown) (pairs : List (ℕ × ℕ)) (left : ℕ) (lefts : List Tree) (right : ℕ) (rights : List Tree) (at : ℕ) → pairs ≡ [] → (length lefts ≤ at) ⊎ (length rights ≤ at) → PairedFrom old old pairs left lefts right rights at
paired-none old pairs left lefts right rights at none past = record {
  extends = extends-none old;
  there = subst (AreThere old) (sym none) tt;
  equations = ap (λ ps. equations_in old.now ps []) none ∙ sym (by past);
}
  where
    by : (length lefts ≤ at) ⊎ (length rights ≤ at) → sides old left (drop at lefts) right (drop at rights) ≡ []
    by (inl low) = sides-left old left right at lefts rights low
    by (inr low) = sides-right old left right at lefts rights low

-- one pair more
pub paired-more : (old now with_left new : Shown) (pairs more : List (ℕ × ℕ)) (left : ℕ) (lefts : List Tree) (right : ℕ) (rights : List Tree) (at : ℕ) (one other one_default other_default : Tree) (first second : ℕ)
    → PairedFrom old now pairs left lefts right rights (at + 1) → HasVariables old left lefts → HasVariables old right rights → at < length lefts → at < length rights → one ≡ get_or lefts at one_default → other ≡ get_or rights at other_default
    → Extends now with_left → HasTerm now with_left left one first → Extends with_left new → HasTerm with_left new right other second → more ≡ pairs ++ (first, second) ∷ []
    → PairedFrom old new more left lefts right rights at
paired-more old now with_left new pairs more left lefts right rights at one other one_default other_default first second paired has_lefts has_rights low_left low_right is_one is_other extends_left term_left extends_right term_right pushed =
    let now_new : Extends now new = extends-then now with_left new extends_left extends_right in
    let old_left : Extends old with_left = extends-then old now with_left paired.extends extends_left in
    let there_pairs : AreThere new pairs = pairs-there-later now new now_new pairs paired.there in
    let first_there : IsThere new first = there-later with_left new extends_right first term_left.there in
    let one_in : AllByRecursion (λ v. IsThere old (left + v)) (occurrences one) = subst (λ t. AllByRecursion (λ v. IsThere old (left + v)) (occurrences t)) (sym is_one) (one-there (λ v. IsThere old (left + v)) lefts at one_default low_left has_lefts) in
    let other_in : AllByRecursion (λ v. IsThere old (right + v)) (occurrences other) = subst (λ t. AllByRecursion (λ v. IsThere old (right + v)) (occurrences t)) (sym is_other) (one-there (λ v. IsThere old (right + v)) rights at other_default low_right has_rights) in
    let first_term : term_of new first ≡ replaced (cell_term old.now left) one =
    term-later with_left new extends_right first term_left.there ∙ (term_left.term_ ∙ replaced-later old now paired.extends left one one_in) in
    let second_term : term_of new second ≡ replaced (cell_term old.now right) other = term_right.term_ ∙ replaced-later old with_left old_left right other other_in in
    let next : at + 1 ≡ suc at = omega arith in
    let split_lefts : drop at lefts ≡ one ∷ drop (at + 1) lefts = drop-cons lefts at one_default low_left ∙ (ap (λ t. t ∷ drop (suc at) lefts) (sym is_one) ∙ ap (λ n. one ∷ drop n lefts) (sym next)) in
    let split_rights : drop at rights ≡ other ∷ drop (at + 1) rights = drop-cons rights at other_default low_right ∙ (ap (λ t. t ∷ drop (suc at) rights) (sym is_other) ∙ ap (λ n. other ∷ drop n rights) (sym next)) in
    record {
      extends = extends-then old now new paired.extends now_new;
      there = subst (AreThere new) (sym pushed) (there-push new pairs (first, second) there_pairs first_there term_right.there);
      equations =
          ap (λ ps. equations_in new.now ps []) pushed
          ∙ (equations_in-push new.now pairs (first, second) []
          ∙ (ap (λ t. (t, term_of new second) ∷ equations_in new.now pairs []) first_term
          ∙ (ap (λ t. (replaced (cell_term old.now left) one, t) ∷ equations_in new.now pairs []) second_term
          ∙ (ap (λ es. (replaced (cell_term old.now left) one, replaced (cell_term old.now right) other) ∷ es) (equations-later now new now_new pairs [] paired.there ∙ paired.equations)
          ∙ sym (ap (λ ts. sides old left ts right (drop at rights)) split_lefts ∙ ap (λ ts. sides old left (one ∷ drop (at + 1) lefts) right ts) split_rights)))));
    }

-- a term's variables are there, as more cells come
pub later-there : (old now : Shown) → Extends old now → (base : ℕ) (terms : List Tree) (at : ℕ) (one default : Tree) → HasVariables old base terms → at < length terms → one ≡ get_or terms at default → AllByRecursion (λ v. IsThere now (base + v)) (occurrences one)
later-there old now extends base terms at one default has low is =
    all-there-later old now extends base (occurrences one) (subst (λ t. AllByRecursion (λ v. IsThere old (base + v)) (occurrences t)) (sym is) (one-there (λ v. IsThere old (base + v)) terms at default low has))

-- the lesser of two lengths is one of them
pub least-past : (a b n : ℕ) → n ≡ min a b → (a ≤ n) ⊎ (b ≤ n)
least-past a b n is = ⊎_elim (λ (less : a < b). let low : a ≤ b = omega (arith, less) in let same : min a b ≡ a = min-eq_left low in inl (omega (arith, is, same))) (λ (low : b ≤ a). let same : min a b ≡ b = min-eq_right low in inr (omega (arith, is, same))) (cases_lt a b)

pub least-low : (a b n : ℕ) → n ≡ min a b → (n ≤ a) × (n ≤ b)
least-low a b n is = ⊎_elim (λ (less : a < b). let low : a ≤ b = omega (arith, less) in let same : min a b ≡ a = min-eq_left low in (omega (arith, is, same), omega (arith, is, same, less))) (λ (low : b ≤ a). let same : min a b ≡ b = min-eq_right low in (omega (arith, is, same, low), omega (arith, is, same))) (cases_lt a b)
