-- The loops over the items from the last to the first, one item further.
use Rattle.std.proofs.Common.{◌≡◌, ℕ, ◌+◌, ◌-◌, ◌<◌, List, [], length, drop, get_or, flat_map, Option, sym, ap, ◌∙◌, arith}
use Rattle.std.proofs.lemmas.List.{drop_all}
use Rattle.le_layout.specs.declared.layout.Layout.{Layout}
use Rattle.le_conds.specs.declared.entry.Join.TheVariants as joins
use Rattle.le_conds.specs.declared.entry.Opens.TheVariants as opens
use Rattle.le_conds.specs.declared.entry.Entry.{Entry}
use Rattle.le_layout.specs.declared.fault.Fault.{Fault}
use Rattle.le_conds.specs.Items.{span}
use Rattle.le_conds.specs.Members.{with_item, members_of}
use Rattle.le_conds.specs.Faults.{item_faults, each_fault, part_faults, least_onto}
use Rattle.le_conds.proofs.StackLemmas.{drop_back, least-append}

abbrev pub no_entry : Entry
no_entry = record { lead = joins.Plain; at = 0; column = 0; opens = opens.Nothing; own = 0; inline = span 0 0 }

-- the members that the last items make, and the fault that decides among theirs
pub members_back : (es : List Entry) (k : ℕ) → k < length es → members_of (drop (length es - (k + 1)) es) ≡ with_item (get_or es (length es - 1 - k) no_entry) (members_of (drop (length es - k) es))
unfolding members_of
members_back es k low = ap members_of (drop_back es k no_entry low)

pub faults_back : (es : List Entry) (k : ℕ) (least : Option Fault) → k < length es → least_onto (each_fault (drop (length es - (k + 1)) es)) least ≡ least_onto (item_faults (get_or es (length es - 1 - k) no_entry) (members_of (drop (length es - k) es))) (least_onto (each_fault (drop (length es - k) es)) least)
unfolding each_fault
faults_back es k least low =
    ap (λ xs. least_onto (each_fault xs) least) (drop_back es k no_entry low)
    ∙ least-append (item_faults (get_or es (length es - 1 - k) no_entry) (members_of (drop (length es - k) es))) (each_fault (drop (length es - k) es)) least

-- before the first step nothing is made
pub members_none : (es : List Entry) → members_of (drop (length es - 0) es) ≡ []
unfolding members_of
members_none es = ap members_of (drop_all (length es - 0) es (omega arith))

pub faults_none : (es : List Entry) → each_fault (drop (length es - 0) es) ≡ []
unfolding each_fault
faults_none es = ap each_fault (drop_all (length es - 0) es (omega arith))

-- the faults of the items' own tokens
pub parts_none : (l : Layout) (es : List Entry) (least : Option Fault) → least ≡ least_onto (flat_map (part_faults l) (drop (length es - 0) es)) least
parts_none l es least = sym (ap (λ xs. least_onto (flat_map (part_faults l) xs) least) (drop_all (length es - 0) es (omega arith)))

pub parts_back : (l : Layout) (es : List Entry) (k : ℕ) (d : Entry) (least found new : Option Fault) → k < length es → new ≡ least_onto (part_faults l (get_or es (length es - 1 - k) d)) found → found ≡ least_onto (flat_map (part_faults l) (drop (length es - k) es)) least → new ≡ least_onto (flat_map (part_faults l) (drop (length es - (k + 1)) es)) least
parts_back l es k d least found new low step so_far =
    let e = get_or es (length es - 1 - k) d in
    step ∙ ap (least_onto (part_faults l e)) so_far
    ∙ sym (least-append (part_faults l e) (flat_map (part_faults l) (drop (length es - k) es)) least)
    ∙ sym (ap (λ xs. least_onto (flat_map (part_faults l) xs) least) (drop_back es k d low))
