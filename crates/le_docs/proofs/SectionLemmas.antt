-- One step of the walks over headers and sections, and where headers stand.
use Rattle.std.proofs.Common.{◌≡◌, ℕ, ◌+◌, ◌<◌, ◌&&◌, ◌||◌, Bool, true, false, cond, List, [], ◌∷◌, ◌++◌, length, get_or, take, drop, Option, None, append_assoc, refl, sym, ap, ◌∙◌}
use Rattle.std.proofs.lemmas.List.{drop_more, take_more}
use Rattle.std.specs.List.{list_any}
use Rattle.std.specs.Str.{bytes_eq}
use mathlib.Core.Bool.{not}
use Rattle.le_base.specs.declared.code.Code.TheVariants.{SameName}
use Rattle.le_layout.specs.declared.span.Span.{Span}
use Rattle.le_layout.specs.declared.layout.Layout.{Layout}
use Rattle.le_docs.specs.declared.doc.Section.{Section}
use Rattle.le_docs.specs.declared.doc.SectionKind.{SectionKind}
use Rattle.le_docs.specs.declared.doc.SectionKind.TheVariants as kinds
use Rattle.le_layout.specs.declared.fault.Fault.{Fault}
use Rattle.le_docs.specs.declared.headers.Head.{Head}
use Rattle.le_docs.specs.Kinds.{same_kind}
use Rattle.le_layout.specs.Fault.{fault_at}
use Rattle.le_docs.specs.Faults.{least_from}
use Rattle.le_docs.specs.Headers.{heads_of, lines_faults, first_faults}
use Rattle.le_docs.specs.Cuts.{parts_in, spans_at, open_at}
use Rattle.le_docs.specs.Sections.{parts_under, target_faults, open_faults, query_faults, has_name, all_faults, all_sections, decided, sections_of, section_at, section_faults, next_at, sections_under, faults_under, name_faults, names_faults}
use Rattle.le_docs.proofs.HeaderLemmas.{least_append}

abbrev pub no_head : Head
no_head = record { kind = kinds.Target; at = 0; name = record { from = 0; to = 0 }; body = 0 }

pub sections_step : (l : Layout) (heads : List Head) (k : ℕ) (d : Head) → k < length heads → sections_under l (drop k heads) ≡ section_at l (get_or heads k d) (next_at l (drop (k + 1) heads)) ∷ sections_under l (drop (k + 1) heads)
unfolding sections_under
sections_step l heads k d low = ap (sections_under l) (drop_more heads k d low)

pub sections_end : (l : Layout) (heads : List Head) → heads ≡ [] → sections_under l heads ≡ []
unfolding sections_under
sections_end l heads e = ap (sections_under l) e

pub faults_step : (l : Layout) (heads : List Head) (k : ℕ) (d : Head) (least : Option Fault) → k < length heads → least_from least (faults_under l (drop k heads)) ≡ least_from (least_from least (section_faults l (get_or heads k d) (next_at l (drop (k + 1) heads)))) (faults_under l (drop (k + 1) heads))
unfolding faults_under
faults_step l heads k d least low =
    ap (λ hs. least_from least (faults_under l hs)) (drop_more heads k d low)
    ∙ least_append least (section_faults l (get_or heads k d) (next_at l (drop (k + 1) heads))) (faults_under l (drop (k + 1) heads))

pub faults_end : (l : Layout) (heads : List Head) (least : Option Fault) → heads ≡ [] → least_from least (faults_under l heads) ≡ least
unfolding faults_under
faults_end l heads least e = ap (λ hs. least_from least (faults_under l hs)) e

pub more_sections : (xs zs rest all : List Section) (y : Section) → zs ≡ xs ++ y ∷ [] → xs ++ (y ∷ rest) ≡ all → zs ++ rest ≡ all
more_sections xs zs rest all y e h = ap (λ v. v ++ rest) e ∙ append_assoc xs (y ∷ []) rest ∙ h

pub names_step : (l : Layout) (kind : SectionKind) (ss : List Section) (i : ℕ) (s : Section) (least : Option Fault) → i < length ss → s ≡ get_or ss i s → least_from least (names_faults l kind (take i ss) (drop i ss)) ≡ least_from (least_from least (name_faults l kind (take i ss) s)) (names_faults l kind (take (i + 1) ss) (drop (i + 1) ss))
unfolding names_faults
names_step l kind ss i s least low e =
    ap (λ xs. least_from least (names_faults l kind (take i ss) xs)) (drop_more ss i s low)
    ∙ ap (λ x. least_from least (names_faults l kind (take i ss) (x ∷ drop (i + 1) ss))) (sym e)
    ∙ ap (λ xs. least_from least (name_faults l kind (take i ss) s ++ names_faults l kind xs (drop (i + 1) ss))) (sym (take_more ss i s low ∙ ap (λ x. take i ss ++ x ∷ []) (sym e)))
    ∙ least_append least (name_faults l kind (take i ss) s) (names_faults l kind (take (i + 1) ss) (drop (i + 1) ss))

pub names_end : (l : Layout) (kind : SectionKind) (earlier ss : List Section) (least : Option Fault) → ss ≡ [] → least_from least (names_faults l kind earlier ss) ≡ least
unfolding names_faults
names_end l kind earlier ss least e = ap (λ xs. least_from least (names_faults l kind earlier xs)) e

pub name_fault_is : (l : Layout) (kind : SectionKind) (earlier : List Section) (s : Section) (a h : Bool) → same_kind s.kind kind ≡ a → has_name kind s.name earlier ≡ h → name_faults l kind earlier s ≡ cond (a && h) (fault_at SameName s.at ∷ []) []
name_fault_is l kind earlier s a h e f =
    ap (λ b. cond (b && has_name kind s.name earlier) (fault_at SameName s.at ∷ []) []) e
    ∙ ap (λ b. cond (a && b) (fault_at SameName s.at ∷ []) []) f

swap_or : (a b r : Bool) → (a || (b || r)) ≡ (b || (a || r))
swap_or true true r = refl
swap_or true false r = refl
swap_or false true r = refl
swap_or false false r = refl

any_push : {X : Type 0} (p : X → Bool) (xs : List X) (y : X) → list_any p (xs ++ y ∷ []) ≡ (p y || list_any p xs)
any_push p [] y = refl
any_push p (x ∷ xs) y = ap (λ b. p x || b) (any_push p xs y) ∙ swap_or (p x) (p y) (list_any p xs)

-- one more section: it has the name where it is of the kind and its name is this
pub has_name_more : (kind : SectionKind) (q : List ℕ) (ss : List Section) (i : ℕ) (s : Section) (a : Bool) → i < length ss → s ≡ get_or ss i s → same_kind s.kind kind ≡ a → has_name kind q (take (i + 1) ss) ≡ ((a && bytes_eq s.name q) || has_name kind q (take i ss))
has_name_more kind q ss i s a low e f =
    ap (has_name kind q) (take_more ss i s low ∙ ap (λ x. take i ss ++ x ∷ []) (sym e))
    ∙ any_push (λ (t : Section). same_kind t.kind kind && bytes_eq t.name q) (take i ss) s
    ∙ ap (λ b. (b && bytes_eq s.name q) || has_name kind q (take i ss)) f

not_not : (b : Bool) → not (not b) ≡ b
not_not true = refl
not_not false = refl

pub flip : (x b v : Bool) → x ≡ not b → x ≡ v → b ≡ not v
flip x b v e f = sym (not_not b) ∙ ap not (sym e ∙ f)

pub or_cond : (a b : Bool) → cond a true b ≡ (a || b)
or_cond true b = refl
or_cond false b = refl

-- ---- the faults of one section, and those of all

pub section_least : (l : Layout) (head : Head) (to : ℕ) (least t o q : Option Fault) (commas : Bool) (sentences unended : List Span) → commas ≡ same_kind head.kind kinds.Templates → sentences ≡ spans_at head.body (parts_in l commas head.body to) → unended ≡ open_at head.body (parts_in l commas head.body to) → t ≡ least_from least (target_faults l head to) → o ≡ least_from t (open_faults l unended) → q ≡ least_from o (query_faults l head sentences) → q ≡ least_from least (section_faults l head to)
section_least l head to least t o q commas sentences unended e s u ft fo fq =
    let ss = spans_at head.body (parts_under l head to) in
    let us = open_at head.body (parts_under l head to) in
    let A = target_faults l head to in
    let s' : sentences ≡ ss = s ∙ ap (λ b. spans_at head.body (parts_in l b head.body to)) e in
    let u' : unended ≡ us = u ∙ ap (λ b. open_at head.body (parts_in l b head.body to)) e in
    let o' : o ≡ least_from (least_from least A) (open_faults l us) = fo ∙ ap (λ x. least_from t (open_faults l x)) u' ∙ ap (λ x. least_from x (open_faults l us)) ft in
    fq ∙ ap (λ x. least_from o (query_faults l head x)) s' ∙ ap (λ x. least_from x (query_faults l head ss)) o'
    ∙ sym (least_append (least_from least A) (open_faults l us) (query_faults l head ss))
    ∙ sym (least_append least A (open_faults l us ++ query_faults l head ss))

pub all_least : (l : Layout) (heads : List Head) (secs : List Section) (a d n q : Option Fault) → heads ≡ heads_of l l.lines → secs ≡ sections_under l heads → a ≡ least_from (least_from None (first_faults l l.lines)) (lines_faults l l.lines) → d ≡ least_from a (faults_under l heads) → n ≡ least_from d (names_faults l kinds.Scenario [] secs) → q ≡ least_from n (names_faults l kinds.Query [] secs) → (q ≡ least_from None (all_faults l)) × (secs ≡ all_sections l)
all_least l heads secs a d n q h s fa fd fn fq =
    let F = first_faults l l.lines in
    let L = lines_faults l l.lines in
    let U = faults_under l (heads_of l l.lines) in
    let S = names_faults l kinds.Scenario [] (all_sections l) in
    let Q = names_faults l kinds.Query [] (all_sections l) in
    let s' : secs ≡ all_sections l = s ∙ ap (sections_under l) h in
    let d' : d ≡ least_from (least_from (least_from None F) L) U = fd ∙ ap (λ x. least_from a (faults_under l x)) h ∙ ap (λ x. least_from x U) fa in
    let n' : n ≡ least_from (least_from (least_from (least_from None F) L) U) S = fn ∙ ap (λ x. least_from d (names_faults l kinds.Scenario [] x)) s' ∙ ap (λ x. least_from x S) d' in
    let q' : q ≡ least_from (least_from (least_from (least_from (least_from None F) L) U) S) Q = fq ∙ ap (λ x. least_from n (names_faults l kinds.Query [] x)) s' ∙ ap (λ x. least_from x Q) n' in (
      q' ∙ sym (least_append (least_from (least_from (least_from None F) L) U) S Q)
          ∙ sym (least_append (least_from (least_from None F) L) U (S ++ Q))
          ∙ sym (least_append (least_from None F) L (U ++ (S ++ Q)))
          ∙ sym (least_append None F (L ++ (U ++ (S ++ Q)))),
      s',
    )

pub decided_as : (l : Layout) (o q : Option Fault) (secs : List Section) → (q ≡ least_from None (all_faults l)) × (secs ≡ all_sections l) → q ≡ o → sections_of l ≡ decided l o secs
decided_as l o q secs h e = ap (λ x. decided l x (all_sections l)) (sym h.0 ∙ e) ∙ ap (decided l o) (sym h.1)
