-- One step of each walk over the sentences and sections of a document.
use Rattle.std.proofs.Common.{◌≡◌, ℕ, ◌+◌, ◌<◌, Bool, true, false, cond, Result, Ok, Err, List, [], ◌∷◌, ◌++◌, length, get_or, drop, append_assoc, refl, sym, ap, ◌∙◌}
use Rattle.std.proofs.lemmas.List.{drop_more}
use Rattle.le_base.specs.declared.stop.Refusal.{Refusal}
use Rattle.le_layout.specs.declared.layout.Layout.{Layout}
use Rattle.le_docs.specs.declared.doc.Doc.{Doc}
use Rattle.le_docs.specs.declared.doc.Section.{Section}
use Rattle.le_templates.specs.declared.part.Template.{Template}
use Rattle.le_terms.specs.declared.program.Clause.{Clause}
use Rattle.le_terms.specs.declared.program.GroupKind.{GroupKind}
use Rattle.le_clauses.specs.declared.whole.Piece.{Piece}
use Rattle.le_clauses.specs.declared.whole.Whole.{Whole}
use Rattle.le_clauses.specs.Pieces.{Read, declared_after, template_spans, piece_of, onto_pieces, is_read, pieces_of, whole_by, program_of}

-- clauses that were read, before those of the sentences after them
abbrev pub after_clauses : List Clause → Result (Read (List Clause)) Refusal → Result (Read (List Clause)) Refusal
after_clauses done (Ok f) = Ok (record { value = done ++ f.value; names = f.names; count = f.count; groups = f.groups })
after_clauses done (Err r) = Err r

-- pieces that were read, before those of the sections after them
abbrev pub after_pieces : List Piece → Result (Read (List Piece)) Refusal → Result (Read (List Piece)) Refusal
after_pieces done (Ok f) = Ok (record { value = done ++ f.value; names = f.names; count = f.count; groups = f.groups })
after_pieces done (Err r) = Err r

after_onto : (done : List Piece) (piece : Piece) (r : Result (Read (List Piece)) Refusal) → after_pieces done (onto_pieces piece r) ≡ after_pieces (done ++ piece ∷ []) r
after_onto done piece (Ok f) = ap (λ v. Ok (record { value = v; names = f.names; count = f.count; groups = f.groups })) (sym (append_assoc done (piece ∷ []) f.value))
after_onto done piece (Err r) = refl

abbrev then_pieces : List Template → Layout → List Section → Result (Read Piece) Refusal → Result (Read (List Piece)) Refusal
then_pieces users layout rest (Ok f) = onto_pieces f.value (pieces_of users f.names f.count f.groups layout rest)
then_pieces users layout rest (Err r) = Err r

pieces_step : (users : List Template) (names : List (List ℕ)) (count : ℕ) (groups : List GroupKind) (layout : Layout) (sections : List Section) (i : ℕ) (s : Section) (b : Bool) → i < length sections → s ≡ get_or sections i s → is_read s ≡ b → pieces_of users names count groups layout (drop i sections) ≡ cond b (then_pieces users layout (drop (i + 1) sections) (piece_of users names count groups layout s)) (pieces_of users names count groups layout (drop (i + 1) sections))
pieces_step users names count groups layout sections i s b low e h =
    let rest = drop (i + 1) sections in
    ap (pieces_of users names count groups layout) (drop_more sections i s low)
    ∙ ap (λ x. pieces_of users names count groups layout (x ∷ rest)) (sym e)
    ∙ ap (λ x. cond x (then_pieces users layout rest (piece_of users names count groups layout s)) (pieces_of users names count groups layout rest)) h

pub pieces_more : (users : List Template) (names names' : List (List ℕ)) (count count' : ℕ) (groups groups' : List GroupKind) (layout : Layout) (sections : List Section) (i : ℕ) (s : Section) (f : Read Piece) (done more : List Piece) (all : Result (Read (List Piece)) Refusal) → i < length sections → s ≡ get_or sections i s → is_read s ≡ true → piece_of users names count groups layout s ≡ Ok f → names' ≡ f.names → count' ≡ f.count → groups' ≡ f.groups → more ≡ done ++ f.value ∷ [] → after_pieces done (pieces_of users names count groups layout (drop i sections)) ≡ all → after_pieces more (pieces_of users names' count' groups' layout (drop (i + 1) sections)) ≡ all
pieces_more users names names' count count' groups groups' layout sections i s f done more all low e b p en ec eg push h =
    let rest = drop (i + 1) sections in
    ap (λ x. after_pieces more (pieces_of users x count' groups' layout rest)) en
    ∙ ap (λ x. after_pieces more (pieces_of users f.names x groups' layout rest)) ec
    ∙ ap (λ x. after_pieces more (pieces_of users f.names f.count x layout rest)) eg
    ∙ ap (λ x. after_pieces x (pieces_of users f.names f.count f.groups layout rest)) push
    ∙ sym (after_onto done f.value (pieces_of users f.names f.count f.groups layout rest))
    ∙ sym (ap (after_pieces done) (pieces_step users names count groups layout sections i s true low e b ∙ ap (then_pieces users layout rest) p))
    ∙ h

pub pieces_other : (users : List Template) (names names' : List (List ℕ)) (count count' : ℕ) (groups groups' : List GroupKind) (layout : Layout) (sections : List Section) (i : ℕ) (s : Section) (done more : List Piece) (all : Result (Read (List Piece)) Refusal) → i < length sections → s ≡ get_or sections i s → is_read s ≡ false → names' ≡ names → count' ≡ count → groups' ≡ groups → more ≡ done → after_pieces done (pieces_of users names count groups layout (drop i sections)) ≡ all → after_pieces more (pieces_of users names' count' groups' layout (drop (i + 1) sections)) ≡ all
pieces_other users names names' count count' groups groups' layout sections i s done more all low e b en ec eg push h =
    let rest = drop (i + 1) sections in
    ap (λ x. after_pieces more (pieces_of users x count' groups' layout rest)) en
    ∙ ap (λ x. after_pieces more (pieces_of users names x groups' layout rest)) ec
    ∙ ap (λ x. after_pieces more (pieces_of users names count x layout rest)) eg
    ∙ ap (λ x. after_pieces x (pieces_of users names count groups layout rest)) push
    ∙ sym (ap (after_pieces done) (pieces_step users names count groups layout sections i s false low e b))
    ∙ h

-- ---- the whole

abbrev then_whole : Layout → List Section → Result (List Template) Refusal → Result Whole Refusal
then_whole layout sections (Ok users) = whole_by users (pieces_of users [] 0 [] layout sections)
then_whole layout sections (Err r) = Err r

pub program_after : (layout : Layout) (doc : Doc) (sections : List Section) (r : Result (List Template) Refusal) → sections ≡ doc.sections → declared_after layout [] (template_spans sections) ≡ r → program_of layout doc ≡ then_whole layout doc.sections r
unfolding program_of
program_after layout doc sections r e h = ap (then_whole layout doc.sections) (ap (λ ss. declared_after layout [] (template_spans ss)) (sym e) ∙ h)

pub program_with : (layout : Layout) (doc : Doc) (sections : List Section) (users : List Template) (names : List (List ℕ)) (groups : List GroupKind) (r : Result (Read (List Piece)) Refusal) → sections ≡ doc.sections → declared_after layout [] (template_spans sections) ≡ Ok users → names ≡ [] → groups ≡ [] → pieces_of users names 0 groups layout sections ≡ r → program_of layout doc ≡ whole_by users r
program_with layout doc sections users names groups r e h en eg p =
    program_after layout doc sections (Ok users) e h
    ∙ ap (whole_by users) (ap (pieces_of users [] 0 [] layout) (sym e) ∙ ap (λ x. pieces_of users x 0 [] layout sections) (sym en) ∙ ap (λ x. pieces_of users names 0 x layout sections) (sym eg) ∙ p)

pub whole_made : (users : List Template) (f : Read (List Piece)) (whole : Whole) → whole ≡ record { templates = users; names = f.names; groups = f.groups; pieces = f.value } → whole_by users (Ok f) ≡ Ok whole
whole_made users f whole e = ap Ok (sym e)
