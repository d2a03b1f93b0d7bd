-- What the symbols of a list say of its items and of its last tail.
use Rattle.std.proofs.Common.{◌≡◌, ◌≢◌, ℕ, suc, ◌+◌, ◌<◌, ◌≤◌, List, [], ◌∷◌, ◌++◌, length, take, drop, get_or, true, false, refl, sym, ap, ◌∙◌, arith, length-append}
use Rattle.std.proofs.lemmas.List.{take_all}
use Rattle.std.proofs.Math.Seq.{drop-append_seam}
use Rattle.le_terms.specs.declared.term.Sym.{Sym}
use Rattle.le_terms.specs.declared.term.Sym.TheVariants.{Name, Num, Day, Var, Nil, Cons}
use Rattle.le_terms.specs.Tree.{Tree, constant, number, date, variable, nil, cell, flat, root, tree_of, tree_of-flat}
use Rattle.le_builtins.specs.declared.computing.Calc.TheVariants.{No, Unbound}
use Rattle.le_builtins.specs.Lists.{list_length, last_tail}
use Rattle.le_builtins.specs.Sentences.{a_list, is_variable, is_empty_list}
use Rattle.le_builtins.specs.Compute.{Saying, answered, settled}

-- symbols of a cell: those of its head and its tail stand after the first
pub record Opened (symbols : List Sym) : Type 0 where
  pub head : Tree
  pub tail : Tree
  pub is : tree_of symbols ≡ cell head tail
  pub all : symbols ≡ Cons ∷ (flat head ++ flat tail)

opened-tree : (tree : Tree) (symbols : List Sym) (d : Sym) → tree_of symbols ≡ tree → flat tree ≡ symbols → get_or symbols 0 d ≡ Cons → Opened symbols
opened-tree (constant n) symbols d is whole first = absurd (let e : Name n ≡ Cons = ap (λ ss. get_or ss 0 d) whole ∙ first in cc)
opened-tree (number z) symbols d is whole first = absurd (let e : Num z ≡ Cons = ap (λ ss. get_or ss 0 d) whole ∙ first in cc)
opened-tree (date z) symbols d is whole first = absurd (let e : Day z ≡ Cons = ap (λ ss. get_or ss 0 d) whole ∙ first in cc)
opened-tree (variable v) symbols d is whole first = absurd (let e : Var v ≡ Cons = ap (λ ss. get_or ss 0 d) whole ∙ first in cc)
opened-tree nil symbols d is whole first = absurd (let e : Nil ≡ Cons = ap (λ ss. get_or ss 0 d) whole ∙ first in cc)
opened-tree (cell head tail) symbols d is whole first = record { head = head; tail = tail; is = is; all = sym whole }

opened : (symbols : List Sym) (d : Sym) → flat (tree_of symbols) ≡ symbols → get_or symbols 0 d ≡ Cons → Opened symbols
opened symbols d whole first = opened-tree (tree_of symbols) symbols d refl whole first

-- the symbols after a head are those of its list's tail
pub record Behind (symbols next : List Sym) : Type 0 where
  pub whole : flat (tree_of next) ≡ next
  pub items : list_length (tree_of symbols) ≡ 1 + list_length (tree_of next)
  pub end : last_tail (tree_of symbols) ≡ last_tail (tree_of next)
  pub less : length next < length symbols

behind-tail : (head tail : Tree) (symbols next : List Sym) → tree_of symbols ≡ cell head tail → length (flat tail) < length symbols → next ≡ flat tail → Behind symbols next
behind-tail head tail symbols next is less same =
    let back : tree_of next ≡ tail = ap tree_of same ∙ tree_of-flat tail in
    record {
      whole = ap flat back ∙ sym same;
      items = ap list_length is ∙ (let one : suc (list_length tail) ≡ 1 + list_length tail = omega arith in one ∙ ap (λ t. 1 + list_length t) (sym back));
      end = ap last_tail is ∙ ap last_tail (sym back);
      less = rw same less;
    }

pub behind : (symbols next : List Sym) (d : Sym) → flat (tree_of symbols) ≡ symbols → get_or symbols 0 d ≡ Cons
    → ((head tail : Tree) → symbols ≡ flat (cell head tail) → next ≡ flat tail) → Behind symbols next
behind symbols next d whole first tails =
    let o = opened symbols d whole first in
    let count : length symbols ≡ 1 + (length (flat o.head) + length (flat o.tail)) = ap length o.all ∙ omega (arith, length-append (flat o.head) (flat o.tail)) in
    let less : length (flat o.tail) < length symbols = omega arith in
    behind-tail o.head o.tail symbols next o.is less (tails o.head o.tail o.all)

-- what stands after the first symbol of a cell
pub behind-first : (symbols : List Sym) (m : ℕ) (head tail : Tree) → symbols ≡ flat (cell head tail) → length symbols ≤ m + 1 → take m (drop 1 symbols) ≡ flat head ++ flat tail
behind-first symbols m head tail all long =
    ap (λ ss. take m (drop 1 ss)) all ∙ take_all m (flat head ++ flat tail) (omega (arith, ap length all))

-- what stands after the symbols of its head
pub behind-head : (symbols : List Sym) (n m : ℕ) (head tail : Tree) → symbols ≡ flat head ++ flat tail → n ≡ length (flat head) → length symbols ≤ m + n → take m (drop n symbols) ≡ flat tail
behind-head symbols n m head tail all skipped long =
    let rest : drop n symbols ≡ flat tail = ap (λ k. drop k symbols) skipped ∙ (ap (drop (length (flat head))) all ∙ drop-append_seam (flat head) (flat tail)) in
    ap (take m) rest ∙ take_all m (flat tail) (omega (arith, ap length all, length-append (flat head) (flat tail)))

-- what the root of a list's last tail says: it is open, it ends there, or it is no list
open_root : (tree : Tree) (v : ℕ) → Var v ≡ root tree → is_variable tree ≡ true
open_root (constant n) v same = absurd (cc)
open_root (number z) v same = absurd (cc)
open_root (date d) v same = absurd (cc)
open_root (variable w) v same = refl
open_root nil v same = absurd (cc)
open_root (cell head tail) v same = absurd (cc)

end_root : (tree : Tree) → Nil ≡ root tree → (is_variable tree ≡ false) × (is_empty_list tree ≡ true)
end_root (constant n) same = absurd (cc)
end_root (number z) same = absurd (cc)
end_root (date d) same = absurd (cc)
end_root (variable w) same = absurd (cc)
end_root nil same = (refl, refl)
end_root (cell head tail) same = absurd (cc)

other_root : (tree : Tree) → ((v : ℕ) → root tree ≢ Var v) → root tree ≢ Nil → (is_variable tree ≡ false) × (is_empty_list tree ≡ false)
other_root (constant n) opens ends = (refl, refl)
other_root (number z) opens ends = (refl, refl)
other_root (date d) opens ends = (refl, refl)
other_root (variable w) opens ends = absurd (opens w refl)
other_root nil opens ends = absurd (ends refl)
other_root (cell head tail) opens ends = (refl, refl)

pub answered-open : (list : Tree) (v : ℕ) (saying : Saying) → Var v ≡ root (last_tail list) → Unbound ≡ answered (a_list ∷ []) (list ∷ []) saying
answered-open list v saying same = rw (open_root (last_tail list) v same) refl

pub answered-ended : (list : Tree) (saying : Saying) → Nil ≡ root (last_tail list) → settled saying ≡ answered (a_list ∷ []) (list ∷ []) saying
answered-ended list saying same = let tests = end_root (last_tail list) same in rw (tests.0, tests.1) refl

pub answered-other : (list : Tree) (saying : Saying) → ((v : ℕ) → root (last_tail list) ≢ Var v) → root (last_tail list) ≢ Nil → No ≡ answered (a_list ∷ []) (list ∷ []) saying
answered-other list saying opens ends = let tests = other_root (last_tail list) opens ends in rw (tests.0, tests.1) refl
