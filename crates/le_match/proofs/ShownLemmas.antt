-- The text of a shown reading, piece by piece.
use Rattle.std.proofs.Common.{◌≡◌, ℕ, ◌+◌, ◌<◌, ◌≤◌, Bool, true, false, List, [], ◌∷◌, ◌++◌, length, map, flat_map, drop, get_or, slice_range, sym, refl, ap, ◌∙◌, append_assoc}
use Rattle.std.proofs.lemmas.List.{append-nil, drop_more, drop_all}
use Rattle.le_layout.specs.declared.layout.Layout.{Layout}
use Rattle.le_layout.specs.Words.{token_of}
use Rattle.le_layout.proofs.SpanLemmas.{slice_none}
use Rattle.le_match.specs.declared.shown.Line.{Line}
use Rattle.le_match.specs.Shown.{Piece, plain, opening, closing, glues, gap, piece_text, text_from, share_pieces}
use Rattle.le_layout.specs.declared.token.Token.{Token}
use Rattle.le_templates.specs.declared.part.Template.{Template}
use Rattle.le_match.specs.declared.readings.Reading.{Reading}
use Rattle.le_match.specs.declared.sharing.Place.{Place}
use Rattle.le_match.specs.Shares.{shares_of}
use Rattle.le_match.specs.Shown.{shown}
use Rattle.le_match.specs.Walks.{share_of, glued_after, Writes}
use Rattle.le_match.proofs.CutLemmas.{next}

pub text_append : (l : Layout) (g : Bool) (a b : List Piece) → text_from l g (a ++ b) ≡ text_from l g a ++ text_from l (glued_after g a) b
text_append l g [] b = refl
text_append l g (p ∷ a) b =
    ap (λ s. gap g p ++ piece_text l p ++ s) (text_append l (glues p) a b)
    ∙ sym (append_assoc (gap g p ++ piece_text l p) (text_from l (glues p) a) (text_from l (glued_after (glues p) a) b))

pub glued_append : (g : Bool) (a b : List Piece) → glued_after g (a ++ b) ≡ glued_after (glued_after g a) b
glued_append g [] b = refl
glued_append g (p ∷ a) b = glued_append (glues p) a b

-- what is written after what was written
pub writes_more : (l : Layout) (x y z : Line) (a b : List Piece) → Writes l x y a → Writes l y z b → Writes l x z (a ++ b)
writes_more l x y z a b h k = record {
  text = k.text ∙ ap (λ g. y.text ++ text_from l g b) h.glued ∙ ap (λ s. s ++ text_from l (glued_after x.glued a) b) h.text
      ∙ append_assoc x.text (text_from l x.glued a) (text_from l (glued_after x.glued a) b)
      ∙ ap (λ s. x.text ++ s) (sym (text_append l x.glued a b));
  glued = k.glued ∙ ap (λ g. glued_after g b) h.glued ∙ sym (glued_append x.glued a b);
}

-- what is written, with what is still to come
pub writes_text : (l : Layout) (x y : Line) (a b : List Piece) → Writes l x y a → y.text ++ text_from l y.glued b ≡ x.text ++ text_from l x.glued (a ++ b)
writes_text l x y a b h =
    ap (λ g. y.text ++ text_from l g b) h.glued ∙ ap (λ s. s ++ text_from l (glued_after x.glued a) b) h.text
    ∙ append_assoc x.text (text_from l x.glued a) (text_from l (glued_after x.glued a) b)
    ∙ ap (λ s. x.text ++ s) (sym (text_append l x.glued a b))

pub tokens_more : (l : Layout) (at to : ℕ) → at < to → to ≤ length l.tokens → map plain (slice_range l.tokens at to) ≡ plain (token_of l at) ∷ map plain (slice_range l.tokens (at + 1) to)
tokens_more l at to low high = ap (map plain) (next l at to low high)

pub tokens_end : (l : Layout) (at to : ℕ) → to ≤ at → map plain (slice_range l.tokens at to) ≡ []
tokens_end l at to h = ap (map plain) (slice_none l.tokens at to h)

-- one piece
pub writes_one : (l : Layout) (x y : Line) (p : Piece) → y.text ≡ x.text ++ gap x.glued p ++ piece_text l p → y.glued ≡ glues p → Writes l x y (p ∷ [])
writes_one l x y p e f = record {
  text = e ∙ append_assoc x.text (gap x.glued p) (piece_text l p) ∙ ap (λ s. x.text ++ s) (sym (append-nil (gap x.glued p ++ piece_text l p)));
  glued = f;
}

pub writes_slot : (l : Layout) (a b c d : Line) (ps : List Piece) → b.text ≡ a.text ++ gap a.glued opening ++ piece_text l opening → b.glued ≡ true → Writes l b c ps → d.text ≡ c.text ++ gap c.glued closing ++ piece_text l closing → d.glued ≡ false → Writes l a d (opening ∷ (ps ++ closing ∷ []))
writes_slot l a b c d ps e f h g k =
    writes_more l a b d (opening ∷ []) (ps ++ closing ∷ []) (writes_one l a b opening e f)
    (writes_more l b c d ps (closing ∷ []) h (writes_one l c d closing g k))

-- the pieces of some places
abbrev pub place_pieces : Layout → List Place → List Piece
place_pieces l places = flat_map share_pieces (map (share_of l) places)

pub shown_step : (l : Layout) (places : List Place) (i : ℕ) (d x : Place) (old new : Line) → i < length places → get_or places i d ≡ x → Writes l old new (share_pieces (share_of l x)) → new.text ++ text_from l new.glued (place_pieces l (drop (i + 1) places)) ≡ old.text ++ text_from l old.glued (place_pieces l (drop i places))
shown_step l places i d x old new low is h =
    let rest = place_pieces l (drop (i + 1) places) in
    writes_text l old new (share_pieces (share_of l x)) rest h
    ∙ ap (λ ps. old.text ++ text_from l old.glued (place_pieces l ps)) (ap (λ p. p ∷ drop (i + 1) places) (sym is) ∙ sym (drop_more places i d low))

pub shown_end : (l : Layout) (places : List Place) (i : ℕ) (line : Line) → length places ≤ i → line.text ≡ line.text ++ text_from l line.glued (place_pieces l (drop i places))
shown_end l places i line h = sym (append-nil line.text) ∙ ap (λ ps. line.text ++ text_from l line.glued (place_pieces l ps)) (sym (drop_all i places h))

pub shown_is : (us : List Template) (l : Layout) (ts : List Token) (r : Reading) (places : List Place) → map (share_of l) places ≡ shares_of us ts r → text_from l true (place_pieces l places) ≡ shown us l ts r
unfolding shown
shown_is us l ts r places e = ap (λ ss. text_from l true (flat_map share_pieces ss)) e
