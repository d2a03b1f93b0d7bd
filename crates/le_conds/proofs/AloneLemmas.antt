-- The column of an item that is alone makes no difference.
use Rattle.std.proofs.Common.{◌≡◌, ℕ, ◌&&◌, Bool, true, false, List, [], ◌∷◌, ◌++◌, refl, sym, ap, ◌∙◌}
use Rattle.std.proofs.Math.Dec.{leb-zero}
use Rattle.le_base.specs.declared.code.Code.TheVariants.{BadIndent}
use Rattle.le_layout.specs.declared.layout.Layout.{Layout}
use Rattle.le_conds.specs.declared.item.Item.{Item}
use Rattle.le_conds.specs.declared.entry.Opens.{Opens}
use Rattle.le_conds.specs.declared.entry.Opens.TheVariants.{Nothing, Negation, ForAll, Second, Stray, Gather}
use Rattle.le_conds.specs.Openers.{indent}
use Rattle.le_conds.specs.Entries.{opens_of, entry, further_entries, entries_of}
use Rattle.le_conds.specs.Members.{members_of, tree_of}
use Rattle.le_conds.specs.Faults.{fault_if, is_connective, is_bare, block_faults, negation_faults, part_faults, for_all_faults, each_fault, shape_faults, condition_faults}
use Rattle.le_conds.specs.Stack.{entries_seen}

alone_tree : (o : Opens) (place column : ℕ) (item : Item) → tree_of (entry place 0 item o ∷ []) ≡ tree_of (entry place column item o ∷ [])
unfolding members_of
alone_tree Nothing place column item = refl
alone_tree Negation place column item = refl
alone_tree (Gather fold result name) place column item = refl
alone_tree (Second c) place column item = refl
alone_tree Stray place column item = refl
alone_tree ForAll place column item = refl

for_all_alone : (place column : ℕ) (item : Item) → for_all_faults (entry place 0 item ForAll) [] ≡ for_all_faults (entry place column item ForAll) []
for_all_alone place column item =
    let e = entry place 0 item ForAll in
    ap (λ b. fault_if (is_bare e && b) BadIndent e.own ++ ([] ++ block_faults (is_bare e) [])) (leb-zero 0 ∙ sym (leb-zero column))

negation_alone : (b : Bool) (place column : ℕ) (item : Item) → negation_faults b (entry place 0 item Negation) [] ≡ negation_faults b (entry place column item Negation) []
negation_alone true place column item = refl
negation_alone false place column item = refl

alone_shape : (o : Opens) (place column : ℕ) (item : Item) → shape_faults (entry place 0 item o ∷ []) ≡ shape_faults (entry place column item o ∷ [])
unfolding members_of each_fault
alone_shape Nothing place column item = refl
alone_shape Negation place column item =
    let e = entry place 0 item Negation in
    ap (λ fs. (fault_if (is_connective e.lead) BadIndent e.at ++ []) ++ (fs ++ [])) (negation_alone (is_bare e) place column item)
alone_shape (Gather fold result name) place column item = refl
alone_shape (Second c) place column item = refl
alone_shape Stray place column item = refl
alone_shape ForAll place column item =
    let e = entry place 0 item ForAll in
    ap (λ fs. (fault_if (is_connective e.lead) BadIndent e.at ++ []) ++ ((fault_if true BadIndent e.own ++ fs) ++ [])) (for_all_alone place column item)

pub seen_tree : (l : Layout) (place : ℕ) (items : List Item) → tree_of (entries_seen l place items) ≡ tree_of (entries_of l place items)
unfolding further_entries
seen_tree l place [] = refl
seen_tree l place (item ∷ []) = alone_tree (opens_of l [] item) place (indent l item.at) item
seen_tree l place (item ∷ next ∷ items) = refl

pub seen_faults : (l : Layout) (place : ℕ) (items : List Item) → condition_faults l (entries_seen l place items) ≡ condition_faults l (entries_of l place items)
unfolding further_entries
seen_faults l place [] = refl
seen_faults l place (item ∷ []) =
    ap (λ fs. (part_faults l (entry place 0 item (opens_of l [] item)) ++ []) ++ fs) (alone_shape (opens_of l [] item) place (indent l item.at) item)
seen_faults l place (item ∷ next ∷ items) = refl
