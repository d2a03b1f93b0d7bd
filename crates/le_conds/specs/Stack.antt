-- The members that wait and the conditions of their trees, as the code keeps them: the first one last. Callers don't need it.
use Rattle.std.specs.Prelude.{ℕ, true, List, [], ◌∷◌, ◌++◌, length, map, reverse}
use Rattle.le_base.specs.declared.code.Code.TheVariants.{BadIndent}
use Rattle.le_layout.specs.declared.layout.Layout.{Layout}
use Rattle.le_conds.specs.declared.cond.CondKind.{CondKind}
use Rattle.le_conds.specs.declared.cond.CondKind.TheVariants as kinds
use Rattle.le_conds.specs.declared.cond.Cond.{Cond}
use Rattle.le_conds.specs.declared.item.Item.{Item}
use Rattle.le_conds.specs.declared.entry.Join.{Join}
use Rattle.le_conds.specs.declared.entry.Join.TheVariants.{Or}
use Rattle.le_conds.specs.declared.entry.Opens.{Opens}
use Rattle.le_conds.specs.declared.entry.Opens.TheVariants.{Nothing, Negation, ForAll, Second, Stray, Gather}
use Rattle.le_conds.specs.declared.entry.Entry.{Entry}
use Rattle.le_layout.specs.declared.fault.Fault.{Fault}
use Rattle.le_conds.specs.declared.blocks.Waiting.{Waiting}
use Rattle.le_conds.specs.Trees.{Tree, sentence, cond, flat, at_of}
use Rattle.le_conds.specs.Entries.{entry, opens_of, entries_of}
use Rattle.le_conds.specs.Members.{Member, inside, following, before_marker, from_marker, without_first, first_lead, inline_of}
use Rattle.le_conds.specs.Faults.{fault_if, is_bare, headed_faults, scope_faults, negation_faults, marker_faults, for_all_faults}

-- what is kept of a member
abbrev pub waiting : Member → Waiting
waiting m = record { item = m.item; deepest = m.deepest }

-- members, the first one last
abbrev pub stacked : List Member → List Waiting
stacked [] = []
stacked (m ∷ ms) = stacked ms ++ waiting m ∷ []

-- the conditions of their trees, the first one last
abbrev pub turned : List Member → List Cond
turned [] = []
turned (m ∷ ms) = turned ms ++ reverse (flat m.tree)

-- the first token of the first of some trees
abbrev pub first_at : List Tree → ℕ
first_at [] = 0
first_at (t ∷ ts) = at_of t

-- so many conditions joined by a connective
abbrev pub kind_by : Join → ℕ → CondKind
kind_by Or n = kinds.Or n
kind_by _ n = kinds.And n

-- what joins some trees, unless there is one
abbrev pub joint : Join → List Tree → List Cond
joint lead [] = cond (kinds.And 0) 0 ∷ []
joint lead (t ∷ []) = []
joint lead (t ∷ u ∷ ts) = cond (kind_by lead (length (t ∷ u ∷ ts))) (at_of t) ∷ []

-- the conditions of a sentence at the head of a block
abbrev pub heads : List Tree → List Cond
heads [] = []
heads (t ∷ ts) = reverse (flat t)

-- what is put after the conditions of members to close their block
abbrev pub closing : List Tree → List Member → List Cond
closing [] ms = joint (first_lead (without_first ms)) (map (λ (m : Member). m.tree) ms)
closing (t ∷ ts) ms = heads (t ∷ ts) ++ joint (first_lead ms) (t ∷ map (λ (m : Member). m.tree) ms)

-- the condition of an opener
abbrev pub marking : ℕ → List Member → List Cond
marking own [] = []
marking own (m ∷ ms) = cond kinds.ForAll own ∷ []

-- What an item that opens this puts after the conditions that stand there.
abbrev pub pushed : Opens → Entry → List Member → List Cond
pushed Nothing e ms = closing (sentence e.inline ∷ []) (inside e.column ms)
pushed Negation e ms = closing (inline_of e) (inside e.column ms) ++ cond kinds.Not e.own ∷ []
pushed (Gather fold result name) e ms = closing (inline_of e) (inside e.column ms) ++ cond (kinds.Gather fold result name) e.own ∷ []
pushed (Second column) e ms = closing (inline_of e) (inside column ms)
pushed Stray e ms = closing (inline_of e) (inside e.column ms)
pushed ForAll e ms = closing (inline_of e) (before_marker ms) ++ marking e.own (from_marker ms)

-- the members in the scope of an item that opens this, where these members follow it
abbrev pub scope_of : Opens → Entry → List Member → List Member
scope_of Nothing e ms = inside e.column ms
scope_of Negation e ms = inside e.column ms
scope_of (Gather fold result name) e ms = inside e.column ms
scope_of (Second column) e ms = inside column ms
scope_of Stray e ms = inside e.column ms
scope_of ForAll e ms = before_marker ms

-- the first of some members, if there is one
abbrev pub only_first : List Member → List Member
only_first [] = []
only_first (m ∷ ms) = m ∷ []

-- the marker of an item that opens this, if it is a `for all` that has one
abbrev pub marker_of : Opens → List Member → List Member
marker_of ForAll ms = only_first (from_marker ms)
marker_of Nothing ms = []
marker_of Negation ms = []
marker_of (Gather fold result name) ms = []
marker_of (Second column) ms = []
marker_of Stray ms = []

-- the members that an item that opens this leaves
abbrev pub left_of : Opens → Entry → List Member → List Member
left_of Nothing e ms = following e.column ms
left_of Negation e ms = following e.column ms
left_of (Gather fold result name) e ms = following e.column ms
left_of (Second column) e ms = following column ms
left_of Stray e ms = following e.column ms
left_of ForAll e ms = without_first (from_marker ms)

-- the sentence that heads the block of an item that opens this, if there is one
abbrev pub heads_of : Opens → Entry → List Tree
heads_of Nothing e = sentence e.inline ∷ []
heads_of Negation e = inline_of e
heads_of (Gather fold result name) e = inline_of e
heads_of (Second column) e = inline_of e
heads_of Stray e = inline_of e
heads_of ForAll e = inline_of e

-- the condition of an item that opens this, where this is its marker
abbrev pub opened_by : Opens → Entry → List Member → List Cond
opened_by Nothing e marker = []
opened_by Negation e marker = cond kinds.Not e.own ∷ []
opened_by (Gather fold result name) e marker = cond (kinds.Gather fold result name) e.own ∷ []
opened_by (Second column) e marker = []
opened_by Stray e marker = []
opened_by ForAll e marker = marking e.own marker

-- what is wrong with an item that opens this, where these members are in its scope and this is its marker
abbrev pub faults_in : Opens → Entry → List Member → List Member → List Fault
faults_in Nothing e inner marker = headed_faults inner
faults_in Negation e inner marker = negation_faults (is_bare e) e inner
faults_in (Gather fold result name) e inner marker = scope_faults e inner
faults_in (Second column) e inner marker = scope_faults e inner
faults_in Stray e inner marker = fault_if true BadIndent e.own
faults_in ForAll e inner marker = marker_faults e marker ++ for_all_faults e inner

-- What the code makes of items: the column of an item that is alone isn't counted, since there is nothing to compare it with.
abbrev pub entries_seen : Layout → ℕ → List Item → List Entry
entries_seen layout place [] = []
entries_seen layout place (item ∷ []) = entry place 0 item (opens_of layout [] item) ∷ []
entries_seen layout place (item ∷ next ∷ items) = entries_of layout place (item ∷ next ∷ items)
