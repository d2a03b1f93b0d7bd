-- What an item puts onto the conditions that stand there: the step of a loop over the items from the last to the first.
use Rattle.std.proofs.Common.{◌≡◌, ℕ, suc, Bool, true, false, cond, List, [], ◌∷◌, ◌++◌, length, map, reverse, refl, sym, ap, ◌∙◌, append_assoc, append-nil}
use Rattle.std.proofs.lemmas.List.{reverse-append}
use Rattle.le_conds.specs.declared.cond.Cond.{Cond}
use Rattle.le_conds.specs.declared.cond.CondKind.TheVariants as kinds
use Rattle.le_conds.specs.declared.entry.Join.{Join}
use Rattle.le_conds.specs.declared.entry.Join.TheVariants.{Plain, And, Or}
use Rattle.le_conds.specs.declared.entry.Opens.{Opens}
use Rattle.le_conds.specs.declared.entry.Opens.TheVariants.{Nothing, Negation, ForAll, Second, Stray, Gather}
use Rattle.le_conds.specs.declared.entry.Entry.{Entry}
use Rattle.le_conds.specs.Trees.{Tree, sentence, negation, gather, at_of, count_of, flat, flat_each}
use Rattle.le_conds.specs.Trees.{cond as node}
use Rattle.le_conds.specs.Members.{Member, is_empty, is_marker, belongs, inside, following, before_marker, from_marker, without_first, trees_of, of_several, joined, first_lead, inline_of, block, with_second, with_opener, members_of, tree_of}
use Rattle.le_conds.specs.Stack.{turned, kind_by, joint, closing, marking, pushed}

pub turned-append : (xs ys : List Member) → turned (xs ++ ys) ≡ turned ys ++ turned xs
turned-append [] ys = sym (append-nil (turned ys))
turned-append (m ∷ ms) ys = ap (λ zs. zs ++ reverse (flat m.tree)) (turned-append ms ys) ∙ append_assoc (turned ys) (turned ms) (reverse (flat m.tree))

inside_step : (column : ℕ) (m : Member) (ms : List Member) (b : Bool) → inside column ms ++ following column ms ≡ ms → cond b (m ∷ inside column ms) [] ++ cond b (following column ms) (m ∷ ms) ≡ m ∷ ms
inside_step column m ms true e = ap (λ xs. m ∷ xs) e
inside_step column m ms false e = refl

pub inside_following : (column : ℕ) (ms : List Member) → inside column ms ++ following column ms ≡ ms
inside_following column [] = refl
inside_following column (m ∷ ms) = inside_step column m ms (belongs column m) (inside_following column ms)

before_step : (m : Member) (ms : List Member) (b : Bool) → before_marker ms ++ from_marker ms ≡ ms → cond b [] (m ∷ before_marker ms) ++ cond b (m ∷ ms) (from_marker ms) ≡ m ∷ ms
before_step m ms true e = refl
before_step m ms false e = ap (λ xs. m ∷ xs) e

pub before_from : (ms : List Member) → before_marker ms ++ from_marker ms ≡ ms
before_from [] = refl
before_from (m ∷ ms) = before_step m ms (is_marker m.item.opens) (before_from ms)

trees_turned : (ms : List Member) → reverse (flat_each (trees_of (map (λ (m : Member). m.tree) ms))) ≡ turned ms
trees_turned [] = refl
trees_turned (m ∷ ms) =
    reverse-append (flat m.tree) (flat_each (trees_of (map (λ (x : Member). x.tree) ms)))
    ∙ ap (λ xs. xs ++ reverse (flat m.tree)) (trees_turned ms)

count_trees : (ts : List Tree) → count_of (trees_of ts) ≡ length ts
count_trees [] = refl
count_trees (t ∷ ts) = ap suc (count_trees ts)

several_flat : (lead : Join) (t u : Tree) (ts : List Tree) → flat (of_several lead (trees_of (t ∷ u ∷ ts))) ≡ node (kind_by lead (length (t ∷ u ∷ ts))) (at_of t) ∷ flat_each (trees_of (t ∷ u ∷ ts))
several_flat Plain t u ts = ap (λ n. node (kinds.And n) (at_of t) ∷ flat_each (trees_of (t ∷ u ∷ ts))) (count_trees (t ∷ u ∷ ts))
several_flat And t u ts = ap (λ n. node (kinds.And n) (at_of t) ∷ flat_each (trees_of (t ∷ u ∷ ts))) (count_trees (t ∷ u ∷ ts))
several_flat Or t u ts = ap (λ n. node (kinds.Or n) (at_of t) ∷ flat_each (trees_of (t ∷ u ∷ ts))) (count_trees (t ∷ u ∷ ts))

joined_flat : (lead : Join) (ts : List Tree) → reverse (flat (joined lead ts)) ≡ reverse (flat_each (trees_of ts)) ++ joint lead ts
joined_flat lead [] = refl
joined_flat lead (t ∷ []) = ap reverse (sym (append-nil (flat t))) ∙ sym (append-nil (reverse (flat t ++ [])))
joined_flat lead (t ∷ u ∷ ts) =
    ap reverse (several_flat lead t u ts)
    ∙ reverse-append (node (kind_by lead (length (t ∷ u ∷ ts))) (at_of t) ∷ []) (flat_each (trees_of (t ∷ u ∷ ts)))

-- the conditions of a block of members, and of one with a sentence at its head
plain_flat : (ms : List Member) → reverse (flat (block [] ms)) ≡ turned ms ++ closing [] ms
plain_flat ms =
    joined_flat (first_lead (without_first ms)) (map (λ (m : Member). m.tree) ms)
    ∙ ap (λ xs. xs ++ joint (first_lead (without_first ms)) (map (λ (m : Member). m.tree) ms)) (trees_turned ms)

headed_flat : (t : Tree) (ms : List Member) → reverse (flat (block (t ∷ []) ms)) ≡ turned ms ++ closing (t ∷ []) ms
headed_flat t ms =
    let trees = map (λ (m : Member). m.tree) ms in
    joined_flat (first_lead ms) (t ∷ trees)
    ∙ ap (λ xs. xs ++ joint (first_lead ms) (t ∷ trees)) (reverse-append (flat t) (flat_each (trees_of trees)) ∙ ap (λ xs. xs ++ reverse (flat t)) (trees_turned ms))
    ∙ append_assoc (turned ms) (reverse (flat t)) (joint (first_lead ms) (t ∷ trees))

inline_flat : (e : Entry) (ms : List Member) → reverse (flat (block (inline_of e) ms)) ≡ turned ms ++ closing (inline_of e) ms
inline_flat e ms = by_empty (is_empty e.inline)
  where
    by_empty : (b : Bool) → reverse (flat (block (cond b [] (sentence e.inline ∷ [])) ms)) ≡ turned ms ++ closing (cond b [] (sentence e.inline ∷ [])) ms
    by_empty true = plain_flat ms
    by_empty false = headed_flat (sentence e.inline) ms

-- a member with these conditions, before those that don't belong to it
onto_turned : (column : ℕ) (ms : List Member) (conds more_conds : List Cond) → conds ≡ turned (inside column ms) ++ more_conds → turned (following column ms) ++ conds ≡ turned ms ++ more_conds
onto_turned column ms conds more_conds e =
    ap (λ xs. turned (following column ms) ++ xs) e
    ∙ sym (append_assoc (turned (following column ms)) (turned (inside column ms)) more_conds)
    ∙ ap (λ xs. xs ++ more_conds) (sym (turned-append (inside column ms) (following column ms)) ∙ ap turned (inside_following column ms))

-- an opener's condition after those of its block
opened_flat : (x : Cond) (xs inner others : List Cond) → reverse xs ≡ inner ++ others → reverse (x ∷ xs) ≡ inner ++ (others ++ x ∷ [])
opened_flat x xs inner others e = reverse-append (x ∷ []) xs ∙ ap (λ ys. ys ++ x ∷ []) e ∙ append_assoc inner others (x ∷ [])

-- What an item puts onto the conditions of the members after it gives those of the members with it.
pub pushes : (o : Opens) (e : Entry) (ms : List Member) → turned (with_opener o e ms) ≡ turned ms ++ pushed o e ms
pushes Nothing e ms =
    onto_turned e.column ms (reverse (flat (block (sentence e.inline ∷ []) (inside e.column ms)))) (closing (sentence e.inline ∷ []) (inside e.column ms)) (headed_flat (sentence e.inline) (inside e.column ms))
pushes Negation e ms =
    onto_turned e.column ms (reverse (flat (negation e.own (block (inline_of e) (inside e.column ms))))) (closing (inline_of e) (inside e.column ms) ++ node kinds.Not e.own ∷ [])
    (opened_flat (node kinds.Not e.own) (flat (block (inline_of e) (inside e.column ms))) (turned (inside e.column ms)) (closing (inline_of e) (inside e.column ms)) (inline_flat e (inside e.column ms)))
pushes (Gather fold result name) e ms =
    onto_turned e.column ms (reverse (flat (gather e.own fold result name (block (inline_of e) (inside e.column ms))))) (closing (inline_of e) (inside e.column ms) ++ node (kinds.Gather fold result name) e.own ∷ [])
    (opened_flat (node (kinds.Gather fold result name) e.own) (flat (block (inline_of e) (inside e.column ms))) (turned (inside e.column ms)) (closing (inline_of e) (inside e.column ms)) (inline_flat e (inside e.column ms)))
pushes (Second column) e ms =
    onto_turned column ms (reverse (flat (block (inline_of e) (inside column ms)))) (closing (inline_of e) (inside column ms)) (inline_flat e (inside column ms))
pushes Stray e ms =
    onto_turned e.column ms (reverse (flat (block (inline_of e) (inside e.column ms)))) (closing (inline_of e) (inside e.column ms)) (inline_flat e (inside e.column ms))
pushes ForAll e ms = by_marker (before_marker ms) (from_marker ms) (before_from ms)
  where
    by_marker : (fs rest : List Member) → fs ++ rest ≡ ms → turned (without_first rest) ++ reverse (flat (with_second e.own (block (inline_of e) fs) rest)) ≡ turned ms ++ (closing (inline_of e) fs ++ marking e.own rest)
    by_marker fs [] same =
        inline_flat e fs
        ∙ ap (λ xs. turned xs ++ closing (inline_of e) fs) (sym (append-nil fs) ∙ same)
        ∙ ap (λ xs. turned ms ++ xs) (sym (append-nil (closing (inline_of e) fs)))
    by_marker fs (m ∷ rest) same =
        let first = flat (block (inline_of e) fs) in
        let close = closing (inline_of e) fs in
        let x = node kinds.ForAll e.own in
        ap (λ xs. turned rest ++ xs)
        (opened_flat x (first ++ flat m.tree) (reverse (flat m.tree) ++ turned fs) close
        (reverse-append first (flat m.tree) ∙ ap (λ xs. reverse (flat m.tree) ++ xs) (inline_flat e fs) ∙ sym (append_assoc (reverse (flat m.tree)) (turned fs) close)))
        ∙ sym (append_assoc (turned rest) (reverse (flat m.tree) ++ turned fs) (close ++ x ∷ []))
        ∙ ap (λ xs. xs ++ (close ++ x ∷ []))
        (sym (append_assoc (turned rest) (reverse (flat m.tree)) (turned fs)) ∙ sym (turned-append fs (m ∷ rest)) ∙ ap turned same)

-- The conditions of the whole: those of all members, turned round.
pub all_pushed : (es : List Entry) → reverse (flat (tree_of es)) ≡ turned (members_of es) ++ closing [] (members_of es)
all_pushed es = plain_flat (members_of es)
