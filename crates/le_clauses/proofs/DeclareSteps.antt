-- One step of the walk over a document's templates.
use Rattle.std.proofs.Common.{◌≡◌, ℕ, ◌+◌, ◌<◌, ◌≤◌, Bool, true, false, cond, Result, Ok, Err, List, [], ◌∷◌, ◌++◌, length, get_or, drop, sym, ap, ◌∙◌}
use Rattle.std.proofs.lemmas.List.{drop_more, drop_all}
use Rattle.le_layout.specs.declared.span.Span.{Span}
use Rattle.le_base.specs.declared.stop.Refusal.{Refusal}
use Rattle.le_layout.specs.declared.layout.Layout.{Layout}
use Rattle.le_docs.specs.declared.doc.Section.{Section}
use Rattle.le_docs.specs.declared.doc.SectionKind.TheVariants as kinds
use Rattle.le_docs.specs.Kinds.{same_kind}
use Rattle.le_templates.specs.declared.part.Template.{Template}
use Rattle.le_templates.specs.Table.{declaration}
use Rattle.le_clauses.specs.Pieces.{declared_after, template_spans}

abbrev then_declared : Layout → List Span → List Template → Result Template Refusal → Result (List Template) Refusal
then_declared layout rest users (Ok t) = declared_after layout (users ++ t ∷ []) rest
then_declared layout rest users (Err r) = Err r

-- ---- the spans of one section before those of the sections after it

first_ok : (layout : Layout) (xs ys : List Span) (users all : List Template) (d : Result Template Refusal) → ((t : Template) → declared_after layout (users ++ t ∷ []) xs ≡ Ok all → declared_after layout (users ++ t ∷ []) (xs ++ ys) ≡ declared_after layout all ys) → then_declared layout xs users d ≡ Ok all → then_declared layout (xs ++ ys) users d ≡ declared_after layout all ys
first_ok layout xs ys users all (Ok t) step e = step t e
first_ok layout xs ys users all (Err r) step e = absurd (cc)

append_ok : (layout : Layout) (xs ys : List Span) (users all : List Template) → declared_after layout users xs ≡ Ok all → declared_after layout users (xs ++ ys) ≡ declared_after layout all ys
append_ok layout [] ys users all e = let h : users ≡ all = cc in ap (λ us. declared_after layout us ys) h
append_ok layout (x ∷ xs) ys users all e = first_ok layout xs ys users all (declaration users layout x) (λ t h. append_ok layout xs ys (users ++ t ∷ []) all h) e

first_err : (layout : Layout) (xs ys : List Span) (users : List Template) (r : Refusal) (d : Result Template Refusal) → ((t : Template) → declared_after layout (users ++ t ∷ []) xs ≡ Err r → declared_after layout (users ++ t ∷ []) (xs ++ ys) ≡ Err r) → then_declared layout xs users d ≡ Err r → then_declared layout (xs ++ ys) users d ≡ Err r
first_err layout xs ys users r (Ok t) step e = step t e
first_err layout xs ys users r (Err s) step e = e

append_err : (layout : Layout) (xs ys : List Span) (users : List Template) (r : Refusal) → declared_after layout users xs ≡ Err r → declared_after layout users (xs ++ ys) ≡ Err r
append_err layout [] ys users r e = absurd (cc)
append_err layout (x ∷ xs) ys users r e = first_err layout xs ys users r (declaration users layout x) (λ t h. append_err layout xs ys (users ++ t ∷ []) r h) e

spans_step : (sections : List Section) (i : ℕ) (s : Section) (b : Bool) → i < length sections → s ≡ get_or sections i s → same_kind s.kind kinds.Templates ≡ b → template_spans (drop i sections) ≡ cond b s.sentences [] ++ template_spans (drop (i + 1) sections)
unfolding template_spans
spans_step sections i s b low e h =
    ap template_spans (drop_more sections i s low)
    ∙ ap (λ (x : Section). cond (same_kind x.kind kinds.Templates) x.sentences [] ++ template_spans (drop (i + 1) sections)) (sym e)
    ∙ ap (λ x. cond x s.sentences [] ++ template_spans (drop (i + 1) sections)) h

pub section_more : (layout : Layout) (users users' : List Template) (sections : List Section) (i : ℕ) (s : Section) → i < length sections → s ≡ get_or sections i s → same_kind s.kind kinds.Templates ≡ true → declared_after layout users s.sentences ≡ Ok users' → declared_after layout users' (template_spans (drop (i + 1) sections)) ≡ declared_after layout users (template_spans (drop i sections))
section_more layout users users' sections i s low e b h =
    sym (append_ok layout s.sentences (template_spans (drop (i + 1) sections)) users users' h)
    ∙ sym (ap (declared_after layout users) (spans_step sections i s true low e b))

pub section_other : (layout : Layout) (users : List Template) (sections : List Section) (i : ℕ) (s : Section) → i < length sections → s ≡ get_or sections i s → same_kind s.kind kinds.Templates ≡ false → declared_after layout users (template_spans (drop (i + 1) sections)) ≡ declared_after layout users (template_spans (drop i sections))
section_other layout users sections i s low e b = sym (ap (declared_after layout users) (spans_step sections i s false low e b))

pub section_stop : (layout : Layout) (users : List Template) (sections : List Section) (i : ℕ) (s : Section) (r : Refusal) → i < length sections → s ≡ get_or sections i s → same_kind s.kind kinds.Templates ≡ true → declared_after layout users s.sentences ≡ Err r → declared_after layout users (template_spans (drop i sections)) ≡ Err r
section_stop layout users sections i s r low e b h =
    ap (declared_after layout users) (spans_step sections i s true low e b)
    ∙ append_err layout s.sentences (template_spans (drop (i + 1) sections)) users r h

pub sections_end : (layout : Layout) (users : List Template) (sections : List Section) (i : ℕ) → length sections ≤ i → declared_after layout users (template_spans (drop i sections)) ≡ Ok users
unfolding template_spans
sections_end layout users sections i high = ap (λ ss. declared_after layout users (template_spans ss)) (drop_all i sections high)
