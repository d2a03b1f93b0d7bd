-- A rule's conclusion and conditions, and a query's conditions: this project's profile.
use Rattle.std.specs.Prelude.{ℕ, ◌+◌, if◌then◌else◌, nat_lt, codes, List, [], ◌∷◌, ◌++◌, Option, None, Some, Result, Ok, Err}
use Rattle.le_layout.specs.declared.span.Span.{Span}
use Rattle.le_base.specs.declared.stop.Refusal.{Refusal}
use Rattle.le_layout.specs.declared.token.Token.{Token}
use Rattle.le_layout.specs.declared.layout.Layout.{Layout}
use Rattle.le_layout.specs.Words.{tokens_of, is_this_word}
use Rattle.le_conds.specs.declared.cond.Conds.{Conds}
use Rattle.le_conds.specs.declared.entry.Entry.{Entry}
use Rattle.le_layout.specs.declared.fault.Fault.{Fault}
use Rattle.le_conds.specs.Items.{span, items_of}
use Rattle.le_conds.specs.Entries.{entries_of}
use Rattle.le_conds.specs.Trees.{flat}
use Rattle.le_conds.specs.Members.{tree_of}
use Rattle.le_layout.specs.Fault.{refusal_of}
use Rattle.le_conds.specs.Faults.{conclusion_faults, condition_faults, least_of}

-- the first `if` of tokens that stand from this place on, or their end
abbrev pub if_from : Layout → ℕ → List Token → ℕ
if_from layout at [] = at
if_from layout at (t ∷ ts) = if is_this_word layout (codes "if") t then at else if_from layout (at + 1) ts

-- the first `if` of a sentence, or its end
abbrev pub first_if : Layout → Span → ℕ
first_if layout sentence = if_from layout sentence.from (tokens_of layout sentence)

-- a value, where there is no fault
abbrev pub unless_fault : {X : Type 0} → Layout → Option Fault → X → Result X Refusal
unless_fault layout None x = Ok x
unless_fault layout (Some f) x = Err (refusal_of layout f)

-- what the blocks see of the conditions among these tokens; at the place is shown that their first item is empty
abbrev pub conditions_among : Layout → ℕ → ℕ → ℕ → List Entry
conditions_among layout place from to = entries_of layout place (items_of layout from to)

-- the tree of conditions, in preorder
abbrev pub conds_of : List Entry → Conds
conds_of es = record { nodes = flat (tree_of es) }

-- The conditions of a query: all its tokens are conditions. Of all that is wrong with them the least place decides.
abbrev pub conditions_of : Layout → Span → Result Conds Refusal
conditions_of layout sentence =
    let es = conditions_among layout sentence.from sentence.from sentence.to in
    unless_fault layout (least_of (condition_faults layout es)) (conds_of es)

-- a fact, and a rule with these conditions: of all that is wrong with conclusion and conditions the least place decides
abbrev pub fact_with : Layout → Span → Result (Span × Option Conds) Refusal
fact_with layout conclusion = unless_fault layout (least_of (conclusion_faults layout conclusion)) (conclusion, None)

abbrev pub rule_with : Layout → Span → List Entry → Result (Span × Option Conds) Refusal
rule_with layout conclusion es = unless_fault layout (least_of (conclusion_faults layout conclusion ++ condition_faults layout es)) (conclusion, Some (conds_of es))

-- The conclusion and the conditions of a rule: the first `if` ends the conclusion and begins the conditions, and shows
-- where they are empty. Without `if` there are no conditions.
abbrev pub rule_of : Layout → Span → Result (Span × Option Conds) Refusal
rule_of layout sentence =
    let k = first_if layout sentence in
    if nat_lt k sentence.to then rule_with layout (span sentence.from k) (conditions_among layout k (k + 1) sentence.to)
    else fact_with layout (span sentence.from k)
