-- One piece further on a line.
use Rattle.std.proofs.Common.{◌≡◌, ◌==◌, ℕ, ◌+◌, ◌-◌, ◌<◌, ◌≤◌, if◌then◌else◌, ◌&&◌, List, [], ◌∷◌, ◌++◌, length, take, drop, Option, Some, None, Err, sym, refl, ap, ap₂, ◌∙◌, subst, ⊎_elim, arith, append_assoc, append-nil, length-drop, length-take-le, take-append-drop, drop-drop}
use Rattle.std.proofs.lemmas.Bool.{cases_Bool, cond-true, cond-false}
use Rattle.std.proofs.lemmas.List.{take_rest, at_drop_all}
use Rattle.std.proofs.lemmas.Str.{len_utf8_bounds}
use Rattle.le_base.specs.declared.code.Code.TheVariants.{BadCharacter}
use Rattle.le_base.specs.declared.stop.Refusal.{Refusal}
use Rattle.le_layout.specs.declared.place.Place.{Place}
use Rattle.le_layout.specs.declared.piece.Form.{Form}
use Rattle.le_layout.specs.declared.token.Token.{Token}
use Rattle.le_layout.specs.Characters.{begins_with}
use Rattle.le_layout.specs.Places.{next_place, place_behind, refused}
use Rattle.le_layout.specs.Room.{HasRoom}
use Rattle.le_layout.specs.Pieces.{Piece, piece, pieces_of}
use Rattle.le_layout.specs.Faults.{own_faults, is_word_form, begins_comment, faults_at, first_fault, unless_faulty}
use Rattle.le_layout.specs.Layout.{token_at, tokens_at, as_list}
use Rattle.le_layout.proofs.RoomLemmas.{room_less, room_behind}
use Rattle.le_layout.proofs.PieceLemmas.{pieces_of-nil, begins_comment-pieces_of}

-- a piece of this form stands on the line from at on, and place and after are the places of its ends
pub record IsStep (line : List ℕ) (at n : ℕ) (form : Form) (place behind : Place) : Type 0 where
  pub some : 0 < n
  pub within : at + n ≤ length line
  pub chars : List ℕ
  pub chars_are : chars ≡ take n (drop at line)
  pub wide : length chars ≡ n
  pub cut : pieces_of (drop at line) ≡ piece form chars ∷ pieces_of (drop (at + n) line)
  pub next : behind ≡ place_behind place chars

pub step_of : (line : List ℕ) (at n : ℕ) (form : Form) (place behind : Place) → at < length line → 0 < n → n ≤ length (take (length line - at) (drop at line)) → pieces_of (take (length line - at) (drop at line)) ≡ piece form (take n (take (length line - at) (drop at line))) ∷ pieces_of (drop n (take (length line - at) (drop at line))) → behind ≡ place_behind place (take (at + n - at) (drop at line)) → IsStep line at n form place behind
step_of line at n form place next low some wide cut e =
    let rest = take_rest line at in
    let room : n ≤ length (drop at line) = omega (arith, wide, ap length rest) in
    let count : at + n - at ≡ n = omega arith in
    record {
      some = some;
      within = omega (arith, room, length-drop at line);
      chars = take n (drop at line);
      chars_are = refl;
      wide = length-take-le n (drop at line) room;
      cut = ap pieces_of (sym rest) ∙ cut ∙ ap (λ xs. piece form (take n xs) ∷ pieces_of (drop n xs)) rest ∙ ap (λ xs. piece form (take n (drop at line)) ∷ pieces_of xs) (drop-drop n at line);
      next = e ∙ ap (λ k. place_behind place (take k (drop at line))) count;
    }

-- places
pub place_behind-append : (place : Place) (xs ys : List ℕ) → place_behind place (xs ++ ys) ≡ place_behind (place_behind place xs) ys
place_behind-append place [] ys = refl
place_behind-append place (x ∷ xs) ys = place_behind-append (next_place place x) xs ys

next_later : (place : Place) (c : ℕ) → place.byte + 1 ≤ (next_place place c).byte
unfolding next_place
next_later place c =
    let width = len_utf8_bounds c in
    ⊎_elim (λ h. rw (cond-true (c == 10) _ _ h) (omega arith))
    (λ h. rw (cond-false (c == 10) _ _ h) (omega (arith, width)))
    (cases_Bool (c == 10))

pub behind_later : (place : Place) (cs : List ℕ) → place.byte + length cs ≤ (place_behind place cs).byte
behind_later place [] = omega arith
behind_later place (c ∷ cs) = omega (arith, next_later place c, behind_later (next_place place c) cs)

pub step_place : (line : List ℕ) (at n : ℕ) (form : Form) (place behind : Place) → IsStep line at n form place behind → place_behind place (drop at line) ≡ place_behind behind (drop (at + n) line)
step_place line at n form place next s =
    ap (place_behind place) (sym (take-append-drop n (drop at line)))
    ∙ place_behind-append place (take n (drop at line)) (drop n (drop at line))
    ∙ ap₂ place_behind (ap (place_behind place) (sym s.chars_are) ∙ sym s.next) (drop-drop n at line)

pub step_later : (line : List ℕ) (at n : ℕ) (form : Form) (place behind : Place) → IsStep line at n form place behind → place.byte < behind.byte
step_later line at n form place next s = omega (arith, behind_later place s.chars, s.wide, s.some, ap (λ (p : Place). p.byte) s.next)

pub step_room : (line : List ℕ) (at n : ℕ) (form : Form) (place behind : Place) → IsStep line at n form place behind → HasRoom place (length line - at) → HasRoom behind (length line - (at + n))
step_room line at n form place next s r =
    subst (λ p. HasRoom p (length line - (at + n))) (sym s.next)
    (room_behind place s.chars (length line - (at + n)) (room_less place (length line - at) (length s.chars + (length line - (at + n))) r (omega (arith, s.wide, s.within))))

-- faults
abbrev pub code_faults : Place → Form → List ℕ → Place → List ℕ → List Refusal
code_faults place form chars next after =
    own_faults place form chars ++ (if is_word_form form && begins_with 37 after then refused BadCharacter next ∷ [] else [])

faults_at-cons : (place : Place) (form : Form) (chars : List ℕ) (ps : List Piece) → faults_at place (piece form chars ∷ ps) ≡ own_faults place form chars ++ ((if is_word_form form && begins_comment ps then refused BadCharacter (place_behind place chars) ∷ [] else []) ++ faults_at (place_behind place chars) ps)
unfolding faults_at
faults_at-cons place form chars ps = refl

pub step_faults : (line : List ℕ) (at n : ℕ) (form : Form) (place behind : Place) → IsStep line at n form place behind → faults_at place (pieces_of (drop at line)) ≡ code_faults place form (take (at + n - at) (drop at line)) behind (take (length line - (at + n)) (drop (at + n) line)) ++ faults_at behind (pieces_of (drop (at + n) line))
step_faults line at n form place next s =
    let count : at + n - at ≡ n = omega arith in
    let after = drop (at + n) line in
    let chars_are : s.chars ≡ take (at + n - at) (drop at line) = s.chars_are ∙ ap (λ k. take k (drop at line)) (sym count) in
    let after_is : after ≡ take (length line - (at + n)) after = sym (take_rest line (at + n)) in
    ap (faults_at place) s.cut
    ∙ faults_at-cons place form s.chars (pieces_of after)
    ∙ ap₂ (λ p b. own_faults place form s.chars ++ ((if is_word_form form && b then refused BadCharacter p ∷ [] else []) ++ faults_at p (pieces_of after))) (sym s.next) (begins_comment-pieces_of after ∙ ap (begins_with 37) after_is)
    ∙ sym (append_assoc (own_faults place form s.chars) _ _)
    ∙ ap (λ xs. code_faults place form xs next (take (length line - (at + n)) after) ++ faults_at next (pieces_of after)) chars_are

pub fault_found : {X : Type 0} (x : X) (faults rest all : List Refusal) (found : Option Refusal) (r : Refusal) → found ≡ first_fault faults → found ≡ Some r → all ≡ faults ++ rest → unless_faulty x all ≡ Err r
fault_found x [] rest all found r e f a = let g : None ≡ Some r = sym e ∙ f in cc
fault_found x (fault ∷ faults) rest all found r e f a = let g : Some fault ≡ Some r = sym e ∙ f in ap (unless_faulty x) a ∙ cc

pub no_fault : (faults rest all : List Refusal) (found : Option Refusal) → found ≡ first_fault faults → found ≡ None → all ≡ faults ++ rest → rest ≡ all
no_fault [] rest all found e f a = sym a
no_fault (fault ∷ faults) rest all found e f a = let g : Some fault ≡ None = sym e ∙ f in cc

-- tokens
tokens_at-cons : (place : Place) (form : Form) (chars : List ℕ) (ps : List Piece) → tokens_at place (piece form chars ∷ ps) ≡ token_at form chars place (place_behind place chars).byte ++ tokens_at (place_behind place chars) ps
unfolding tokens_at
tokens_at-cons place form chars ps = refl

pub step_tokens : (line : List ℕ) (at n : ℕ) (form : Form) (place behind : Place) → IsStep line at n form place behind → tokens_at place (pieces_of (drop at line)) ≡ token_at form (take (at + n - at) (drop at line)) place behind.byte ++ tokens_at behind (pieces_of (drop (at + n) line))
step_tokens line at n form place next s =
    let count : at + n - at ≡ n = omega arith in
    ap (tokens_at place) s.cut
    ∙ tokens_at-cons place form s.chars (pieces_of (drop (at + n) line))
    ∙ ap₂ (λ xs (p : Place). token_at form xs place p.byte ++ tokens_at p (pieces_of (drop (at + n) line))) (s.chars_are ∙ ap (λ k. take k (drop at line)) (sym count)) (sym s.next)

-- one token or none pushed
pub pushed_more : (tokens pushed one rest front all : List Token) (found : Option Token) → as_list found ≡ one → pushed ≡ tokens ++ as_list found → front ≡ one ++ rest → tokens ++ front ≡ all → pushed ++ rest ≡ all
pushed_more tokens pushed one rest front all found e p f known =
    ap (λ ts. ts ++ rest) (p ∙ ap (λ ts. tokens ++ ts) e) ∙ append_assoc tokens one rest ∙ ap (λ ts. tokens ++ ts) (sym f) ∙ known

-- at the end of the line nothing is left
faults_none : (place : Place) → faults_at place (pieces_of []) ≡ []
unfolding faults_at
faults_none place = ap (faults_at place) pieces_of-nil

tokens_none : (place : Place) → tokens_at place (pieces_of []) ≡ []
unfolding tokens_at
tokens_none place = ap (tokens_at place) pieces_of-nil

pub faults_past : (place : Place) (line : List ℕ) (at : ℕ) → length line ≤ at → faults_at place (pieces_of (drop at line)) ≡ []
faults_past place line at h = at_drop_all (λ xs. faults_at place (pieces_of xs)) line at h ∙ faults_none place

pub tokens_past : (place : Place) (line : List ℕ) (at : ℕ) (tokens all : List Token) → length line ≤ at → tokens ++ tokens_at place (pieces_of (drop at line)) ≡ all → tokens ≡ all
tokens_past place line at tokens all h known = sym (append-nil tokens) ∙ ap (λ ts. tokens ++ ts) (sym (at_drop_all (λ xs. tokens_at place (pieces_of xs)) line at h ∙ tokens_none place)) ∙ known
