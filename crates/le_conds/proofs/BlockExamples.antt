-- Worked examples of blocks, their trees and their faults.
use Rattle.std.proofs.Common.{◌≡◌, ℕ, [], ◌∷◌, None, Some, refl}
use Rattle.le_layout.specs.declared.span.Span.{Span}
use Rattle.le_base.specs.declared.stop.FoldKind.TheVariants.{Sum}
use Rattle.le_base.specs.declared.code.Code.TheVariants.{MixedConnectives, BadIndent, NegationScope}
use Rattle.le_conds.specs.declared.cond.CondKind.TheVariants as kinds
use Rattle.le_conds.specs.declared.entry.Join.{Join}
use Rattle.le_conds.specs.declared.entry.Join.TheVariants.{Plain, And, Or}
use Rattle.le_conds.specs.declared.entry.Opens.{Opens}
use Rattle.le_conds.specs.declared.entry.Opens.TheVariants.{Nothing, Negation, ForAll, Second, Gather}
use Rattle.le_conds.specs.declared.entry.Entry.{Entry}
use Rattle.le_conds.specs.Trees.{none, more, sentence, all, some, negation, for_all, gather, cond, flat}
use Rattle.le_conds.specs.Members.{members_of, tree_of}
use Rattle.le_conds.specs.Faults.{each_fault, shape_faults, least_of}

span : ℕ → ℕ → Span
span from to = record { from = from; to = to }

-- a sentence of these tokens, and an opener whose words end where its sentence begins
plain : Join → ℕ → ℕ → ℕ → ℕ → Entry
plain lead at column from to = record { lead = lead; at = at; column = column; opens = Nothing; own = from; inline = span from to }

opener : Join → ℕ → ℕ → Opens → ℕ → ℕ → Entry
opener lead at column opens from to = record { lead = lead; at = at; column = column; opens = opens; own = at; inline = span from to }

-- `if A`, `and B`, deeper `or C`, `and D`
moods : tree_of (plain Plain 5 0 5 9 ∷ plain And 9 0 10 14 ∷ plain Or 14 4 15 19 ∷ plain And 19 0 20 24 ∷ []) ≡ all (more (sentence (span 5 9)) (more (some (more (sentence (span 10 14)) (more (sentence (span 15 19)) none))) (more (sentence (span 20 24)) none)))
unfolding plain span members_of
moods = refl

moods_flat : flat (tree_of (plain Plain 5 0 5 9 ∷ plain And 9 0 10 14 ∷ plain Or 14 4 15 19 ∷ plain And 19 0 20 24 ∷ []))
    ≡ cond (kinds.And 3) 5 ∷ cond (kinds.Sentence (span 5 9)) 5 ∷ cond (kinds.Or 2) 10 ∷ cond (kinds.Sentence (span 10 14)) 10 ∷ cond (kinds.Sentence (span 15 19)) 15 ∷ cond (kinds.Sentence (span 20 24)) 20 ∷ []
unfolding plain span members_of
moods_flat = refl

moods_sound : least_of (shape_faults (plain Plain 5 0 5 9 ∷ plain And 9 0 10 14 ∷ plain Or 14 4 15 19 ∷ plain And 19 0 20 24 ∷ [])) ≡ None
unfolding plain span members_of each_fault
moods_sound = refl

-- `it is not the case that A`
poor : tree_of (opener Plain 5 4 Negation 11 15 ∷ []) ≡ negation 5 (sentence (span 11 15))
unfolding opener span members_of
poor = refl

-- the same with a deeper `and B`
poor_and : least_of (shape_faults (opener Plain 5 4 Negation 11 15 ∷ plain And 15 8 16 20 ∷ [])) ≡ Some (record { code = NegationScope; place = 15 })
unfolding opener plain span members_of each_fault
poor_and = refl

-- `for all cases in which`, deeper A, `it is the case that`, deeper B
careful : tree_of (opener Plain 5 4 ForAll 10 10 ∷ plain Plain 10 12 10 15 ∷ opener Plain 15 8 (Second 4) 20 20 ∷ plain Plain 20 12 20 24 ∷ []) ≡ for_all 5 (sentence (span 10 15)) (sentence (span 20 24))
unfolding opener plain span members_of
careful = refl

careful_sound : least_of (shape_faults (opener Plain 5 4 ForAll 10 10 ∷ plain Plain 10 12 10 15 ∷ opener Plain 15 8 (Second 4) 20 20 ∷ plain Plain 20 12 20 24 ∷ [])) ≡ None
unfolding opener plain span members_of each_fault
careful_sound = refl

-- a gather with its block on the next line
owes : tree_of (opener Plain 5 4 (Gather Sum (span 5 7) (span 12 13)) 15 15 ∷ plain Plain 15 8 15 22 ∷ []) ≡ gather 5 Sum (span 5 7) (span 12 13) (sentence (span 15 22))
unfolding opener plain span members_of
owes = refl

-- a bare `for all` whose first item isn't deeper while a later one is: the first item decides
first_not_deeper : least_of (shape_faults (opener Plain 5 4 ForAll 10 10 ∷ plain Plain 10 2 10 15 ∷ plain And 15 6 16 20 ∷ opener Plain 20 4 (Second 4) 25 30 ∷ [])) ≡ Some (record { code = BadIndent; place = 10 })
unfolding opener plain span members_of each_fault
first_not_deeper = refl

-- with none deeper it is the `for all`
none_deeper : least_of (shape_faults (opener Plain 5 4 ForAll 10 10 ∷ plain Plain 10 2 10 15 ∷ opener Plain 20 4 (Second 4) 25 30 ∷ [])) ≡ Some (record { code = BadIndent; place = 5 })
unfolding opener plain span members_of each_fault
none_deeper = refl

-- `and` and `or` in one block
both : least_of (shape_faults (plain Plain 5 0 5 9 ∷ plain And 9 0 10 14 ∷ plain Or 14 0 15 19 ∷ [])) ≡ Some (record { code = MixedConnectives; place = 14 })
unfolding plain span members_of each_fault
both = refl

-- less deep than its block and deeper than what owns the block
between : least_of (shape_faults (plain Plain 5 0 5 9 ∷ plain And 9 4 10 14 ∷ plain And 14 2 15 19 ∷ [])) ≡ Some (record { code = BadIndent; place = 14 })
unfolding plain span members_of each_fault
between = refl
