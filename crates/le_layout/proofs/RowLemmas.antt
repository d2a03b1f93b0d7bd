-- One line further in a text.
use Rattle.std.proofs.Common.{◌≡◌, ℕ, ◌+◌, ◌-◌, ◌<◌, ◌≤◌, List, [], ◌∷◌, ◌++◌, length, take, drop, flat_map, Ok, Err, Vec, Global, sym, refl, ap, ap₂, ◌∙◌, subst, arith, append_assoc, append-nil, length-append, length-drop, drop-drop, drop_at}
use Rattle.std.proofs.lemmas.List.{at_drop_all, take_rest}
use Rattle.le_base.specs.declared.stop.Refusal.{Refusal}
use Rattle.le_base.specs.declared.stop.Stop.{Stop}
use Rattle.le_base.specs.declared.stop.Stop.TheVariants.{Refused, Memory}
use Rattle.le_base.specs.Stop.{Gives}
use Rattle.le_layout.specs.declared.place.Place.{Place}
use Rattle.le_layout.specs.declared.token.Token.{Token}
use Rattle.le_layout.specs.declared.token.Line.{Line}
use Rattle.le_layout.specs.Places.{place_behind}
use Rattle.le_layout.specs.Lines.{lines_of, first_line}
use Rattle.le_layout.specs.Room.{HasRoom}
use Rattle.le_layout.specs.Pieces.{pieces_of}
use Rattle.le_layout.specs.Faults.{faults_at, faults_from, unless_faulty}
use Rattle.le_layout.specs.Layout.{tokens_at, rows_from, line_of, lines_from}
use Rattle.le_layout.proofs.RoomLemmas.{room_less, room_behind}
use Rattle.le_layout.proofs.LineLemmas.{splits_line, first_line-front, first_line-some, lines_of-nil}

-- a line stands at a place of the text, and what the text has from there on is the line and what is left
pub record IsRow (cs line : List ℕ) (at n : ℕ) : Type 0 where
  pub some : 0 < n
  pub wide : length line ≡ n
  pub within : at + n ≤ length cs
  pub cut : lines_of (drop at cs) ≡ line ∷ lines_of (drop (at + n) cs)

pub row_of : (cs : List ℕ) (at n : ℕ) → at < length cs → n ≡ length (first_line (take (length cs - at) (drop at cs))) → n ≤ length (take (length cs - at) (drop at cs)) → IsRow cs (take (at + n - at) (drop at cs)) at n
row_of cs at n low e wide =
    let rest = take_rest cs at in
    let some : 0 < length (drop at cs) = omega (arith, length-drop at cs) in
    let n_is : n ≡ length (first_line (drop at cs)) = e ∙ ap (λ xs. length (first_line xs)) rest in
    let count : at + n - at ≡ n = omega arith in
    let line_is : take (at + n - at) (drop at cs) ≡ first_line (drop at cs) = ap (λ k. take k (drop at cs)) (count ∙ n_is) ∙ first_line-front (drop at cs) in
    record {
      some = omega (arith, n_is, first_line-some (drop at cs) some);
      wide = omega (arith, ap length line_is, n_is);
      within = omega (arith, wide, ap length rest, length-drop at cs);
      cut = splits_line (drop at cs) some
          ∙ ap₂ (λ line k. line ∷ lines_of (drop k (drop at cs))) (sym line_is) (sym n_is)
          ∙ ap (λ xs. take (at + n - at) (drop at cs) ∷ lines_of xs) (drop-drop n at cs);
    }

-- what a line without faults answers, and one with faults
pub no_faults : {X : Type 0} (x y : X) (faults : List Refusal) → unless_faulty x faults ≡ Ok y → (x ≡ y) × (faults ≡ [])
no_faults x y [] h = (cc, refl)
no_faults x y (fault ∷ faults) h = let e : Err fault ≡ Ok y = h in cc

pub first_faults : {X Y : Type 0} (x : X) (y : Y) (faults more : List Refusal) (r : Refusal) → unless_faulty x faults ≡ Err r → unless_faulty y (faults ++ more) ≡ Err r
first_faults x y [] more r h = let e : Ok x ≡ Err r = h in cc
first_faults x y (fault ∷ faults) more r h = let e : Err fault ≡ Err r = h in cc

-- faults
faults_from-cons : (place : Place) (line : List ℕ) (lines : List (List ℕ)) → faults_from place (line ∷ lines) ≡ faults_at place (pieces_of line) ++ faults_from (place_behind place line) lines
unfolding faults_from
faults_from-cons place line lines = refl

pub row_faults : (cs line : List ℕ) (at n : ℕ) (place : Place) → IsRow cs line at n → faults_from place (lines_of (drop at cs)) ≡ faults_at place (pieces_of line) ++ faults_from (place_behind place line) (lines_of (drop (at + n) cs))
row_faults cs line at n place r = ap (faults_from place) r.cut ∙ faults_from-cons place line (lines_of (drop (at + n) cs))

pub faults_on : (cs line : List ℕ) (at n : ℕ) (place behind : Place) (all : List Refusal) → IsRow cs line at n → unless_faulty (place_behind place line) (faults_at place (pieces_of line)) ≡ Ok behind → faults_from place (lines_of (drop at cs)) ≡ all → faults_from behind (lines_of (drop (at + n) cs)) ≡ all
faults_on cs line at n place behind all r h known =
    let p = no_faults (place_behind place line) behind (faults_at place (pieces_of line)) h in
    ap (λ q. faults_from q (lines_of (drop (at + n) cs))) (sym p.0)
    ∙ sym (row_faults cs line at n place r ∙ ap (λ fs. fs ++ faults_from (place_behind place line) (lines_of (drop (at + n) cs))) p.1)
    ∙ known

pub room_on_row : (cs line : List ℕ) (at n : ℕ) (place behind : Place) → IsRow cs line at n → unless_faulty (place_behind place line) (faults_at place (pieces_of line)) ≡ Ok behind → HasRoom place (length cs - at) → HasRoom behind (length cs - (at + n))
room_on_row cs line at n place behind r h room =
    let p = no_faults (place_behind place line) behind (faults_at place (pieces_of line)) h in
    subst (λ q. HasRoom q (length cs - (at + n))) p.0
    (room_behind place line (length cs - (at + n)) (room_less place (length cs - at) (length line + (length cs - (at + n))) room (omega (arith, r.wide, r.within))))

-- tokens and lines
rows_from-cons : (place : Place) (line : List ℕ) (lines : List (List ℕ)) → rows_from place (line ∷ lines) ≡ tokens_at place (pieces_of line) ∷ rows_from (place_behind place line) lines
unfolding rows_from
rows_from-cons place line lines = refl

lines_from-cons : (count : ℕ) (row : List Token) (rows : List (List Token)) → lines_from count (row ∷ rows) ≡ line_of count row ++ lines_from (count + length row) rows
unfolding lines_from
lines_from-cons count row rows = refl

row_rows : (cs line : List ℕ) (at n : ℕ) (place behind : Place) → IsRow cs line at n → unless_faulty (place_behind place line) (faults_at place (pieces_of line)) ≡ Ok behind → rows_from place (lines_of (drop at cs)) ≡ tokens_at place (pieces_of line) ∷ rows_from behind (lines_of (drop (at + n) cs))
row_rows cs line at n place behind r h =
    let p = no_faults (place_behind place line) behind (faults_at place (pieces_of line)) h in
    ap (rows_from place) r.cut ∙ rows_from-cons place line (lines_of (drop (at + n) cs)) ∙ ap (λ q. tokens_at place (pieces_of line) ∷ rows_from q (lines_of (drop (at + n) cs))) p.0

pub tokens_on : (cs line : List ℕ) (at n : ℕ) (place behind : Place) (tokens pushed all : List Token) → IsRow cs line at n → unless_faulty (place_behind place line) (faults_at place (pieces_of line)) ≡ Ok behind → pushed ≡ tokens ++ tokens_at place (pieces_of line) → tokens ++ flat_map (λ row. row) (rows_from place (lines_of (drop at cs))) ≡ all → pushed ++ flat_map (λ row. row) (rows_from behind (lines_of (drop (at + n) cs))) ≡ all
tokens_on cs line at n place behind tokens pushed all r h p known =
    let rest = rows_from behind (lines_of (drop (at + n) cs)) in
    ap (λ ts. ts ++ flat_map (λ row. row) rest) p
    ∙ append_assoc tokens (tokens_at place (pieces_of line)) (flat_map (λ row. row) rest)
    ∙ ap (λ rows. tokens ++ flat_map (λ row. row) rows) (sym (row_rows cs line at n place behind r h))
    ∙ known

pub lines_on : (cs line : List ℕ) (at n first : ℕ) (place behind : Place) (tokens pushed : List Token) (lines more all : List Line) → IsRow cs line at n → unless_faulty (place_behind place line) (faults_at place (pieces_of line)) ≡ Ok behind → pushed ≡ tokens ++ tokens_at place (pieces_of line) → first ≡ length tokens → more ≡ lines ++ line_of first (drop first pushed) → lines ++ lines_from (length tokens) (rows_from place (lines_of (drop at cs))) ≡ all → more ++ lines_from (length pushed) (rows_from behind (lines_of (drop (at + n) cs))) ≡ all
lines_on cs line at n first place behind tokens pushed lines more all r h p f m known =
    let row = tokens_at place (pieces_of line) in
    let rest = rows_from behind (lines_of (drop (at + n) cs)) in
    let own : drop first pushed ≡ row = ap₂ drop f p ∙ drop_at tokens row (length tokens) refl in
    ap₂ (λ ls k. ls ++ lines_from k rest) (m ∙ ap₂ (λ k ts. lines ++ line_of k ts) f own) (ap length p ∙ length-append tokens row)
    ∙ append_assoc lines (line_of (length tokens) row) (lines_from (length tokens + length row) rest)
    ∙ ap (λ ls. lines ++ ls) (sym (lines_from-cons (length tokens) row rest))
    ∙ ap (λ rows. lines ++ lines_from (length tokens) rows) (sym (row_rows cs line at n place behind r h))
    ∙ known

-- at the end of the text nothing is left
no_more_faults : (place : Place) → faults_from place (lines_of []) ≡ []
unfolding faults_from
no_more_faults place = ap (faults_from place) lines_of-nil

no_more_rows : (place : Place) → rows_from place (lines_of []) ≡ []
unfolding rows_from
no_more_rows place = ap (rows_from place) lines_of-nil

no_more_lines : (count : ℕ) → lines_from count [] ≡ []
unfolding lines_from
no_more_lines count = refl

pub faults_end : (cs : List ℕ) (at : ℕ) (place : Place) → length cs ≤ at → faults_from place (lines_of (drop at cs)) ≡ []
faults_end cs at place h = at_drop_all (λ xs. faults_from place (lines_of xs)) cs at h ∙ no_more_faults place

rows_end : (cs : List ℕ) (at : ℕ) (place : Place) → length cs ≤ at → rows_from place (lines_of (drop at cs)) ≡ []
rows_end cs at place h = at_drop_all (λ xs. rows_from place (lines_of xs)) cs at h ∙ no_more_rows place

pub tokens_end : (cs : List ℕ) (at : ℕ) (place : Place) (tokens all : List Token) → length cs ≤ at → tokens ++ flat_map (λ row. row) (rows_from place (lines_of (drop at cs))) ≡ all → tokens ≡ all
tokens_end cs at place tokens all h known = sym (append-nil tokens) ∙ ap (λ rows. tokens ++ flat_map (λ row. row) rows) (sym (rows_end cs at place h)) ∙ known

pub lines_end : (cs : List ℕ) (at count : ℕ) (place : Place) (lines all : List Line) → length cs ≤ at → lines ++ lines_from count (rows_from place (lines_of (drop at cs))) ≡ all → lines ≡ all
lines_end cs at count place lines all h known =
    sym (append-nil lines) ∙ ap (λ ls. lines ++ ls) (sym (ap (lines_from count) (rows_end cs at place h) ∙ no_more_lines count)) ∙ known

-- a line's fault is the text's, since the lines before have none
pub fault_on : (cs line : List ℕ) (at n : ℕ) (place : Place) (stop : Stop) (tokens : List Token) (lines : List Line) (all : List Refusal) → IsRow cs line at n → Gives {X = Place} {Y = Place} (λ p. p) (Err stop) (unless_faulty (place_behind place line) (faults_at place (pieces_of line))) → faults_from place (lines_of (drop at cs)) ≡ all → Gives {X = Vec Token Global × Vec Line Global} {Y = List Token × List Line} (λ r. (r.0.items, r.1.items)) (Err stop) (unless_faulty (tokens, lines) all)
fault_on cs line at n place (Refused r) tokens lines all row h known =
    ap (unless_faulty (tokens, lines)) (sym known ∙ row_faults cs line at n place row)
    ∙ first_faults (place_behind place line) (tokens, lines) (faults_at place (pieces_of line)) (faults_from (place_behind place line) (lines_of (drop (at + n) cs))) r h
fault_on cs line at n place Memory tokens lines all row h known = tt
