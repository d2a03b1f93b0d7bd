use Rattle.std.proofs.Common.{◌≡◌, ℕ, ◌+◌, ◌<◌, ◌≤◌, [], ◌∷◌, ◌++◌, length, map, drop, get_or, slice_range, sym, ap, ◌∙◌, subst, arith, refl}
use Rattle.std.specs.List.{All}
use Rattle.std.proofs.lemmas.List.Elements.{All-push}
use Rattle.le_match.specs.declared.sharing.Place.{Place}
use Rattle.le_match.specs.declared.sharing.Place.TheVariants as place
use Rattle.le_match.specs.Shares.{Fits, shares}
use Rattle.le_match.specs.Walks.{IsPlace, share_of, total_size}
use Rattle.le_match.proofs.CutLemmas.{parts_more}
use Rattle.le_match.proofs.FitsLemmas.{total_size_push, fits_word, fits_slot, shares_word, shares_slot, shared_more}
use Rattle.le_match.proofs.sharing.places_of.Goals as goal
use Rattle.le_match.proofs.sharing.places_of.Goals.{in-Word+in_ok-push-in-Word, in-Slot+in_ok-push-in-Slot}

pub loop-part-preserved : goal.loop-part-preserved
loop-part-preserved c =
    let l = c.args.layout.now in
    let n = c.args.edge in
    let parts = c.args.parts.now in
    let ks = c.args.lengths.now in
    let i = c.loop-part.part-index in
    let rest = drop (i + 1) parts in
    let at = c.loop-part.at in
    let to = c.args.tokens.to in
    let j = c.loop-part.slot in
    let found = c.loop-part.found.items in
    let more = parts_more parts i c.part-item.result c.loop-part-test.true c.part-item.is in
    let inside = c.requires.tokens.within in
    let high = c.loop-part.invariant.inside in
    elim c.match-part.branch [
      | in-Word+in_ok-push-in-Word w ↦
          let e = more ∙ ap (λ x. x ∷ rest) w.in-Word.is in
          let f = fits_word l n (drop i parts) rest w.in-Word.field-0 at to (drop j ks) e high inside c.loop-part.invariant.fits in
          let low : at < to = f.0 in
          let x : Place = place.Word at in
          let pushed : c.match-part.found.items ≡ found ++ x ∷ [] = ap (λ v. v.items) w.found-is ∙ w.in_ok-push-in-Word.ensures.items in
          let size = ap total_size pushed ∙ total_size_push found x in
          let here : at < length l.tokens = omega arith in
          let P : ℕ → Type 0 = λ k. Fits l n rest (slice_range l.tokens k to) (drop j ks) in
          let Q : ℕ → Type 0 = λ k. Fits l n rest (slice_range l.tokens c.match-part.at to) (drop k ks) in
          record {
            inside = omega (arith, w.at-is);
            few = omega (arith, w.at-is, size, c.loop-part.invariant.few);
            within = subst (All (IsPlace l)) (sym pushed) (All-push (IsPlace l) found x c.loop-part.invariant.within here);
            fits = subst Q (sym w.slot-is) (subst P (sym w.at-is) f.1);
            shared = ap (λ k. map (share_of l) c.match-part.found.items ++ shares n rest (drop k ks) (slice_range l.tokens c.match-part.at to)) w.slot-is
                ∙ ap (λ k. map (share_of l) c.match-part.found.items ++ shares n rest (drop j ks) (slice_range l.tokens k to)) w.at-is
                ∙ shared_more l found c.match-part.found.items x (shares n rest (drop j ks) (slice_range l.tokens (at + 1) to)) (shares n (drop i parts) (drop j ks) (slice_range l.tokens at to)) pushed
                (shares_word l n (drop i parts) rest w.in-Word.field-0 at to (drop j ks) e low inside)
                ∙ c.loop-part.invariant.shared;
          }
      | in-Slot+in_ok-push-in-Slot w ↦
          let e = more ∙ ap (λ x. x ∷ rest) w.in-Slot.is in
          let f = fits_slot l n (drop i parts) rest w.in-Slot.field-0 at to ks j e high inside c.loop-part.invariant.fits in
          let k = get_or ks j 0 in
          let some : 0 < k = f.some in
          let within : at + (k + (n + n)) ≤ to = f.inside in
          let x : Place = place.Slot (record { from = at + n; to = at + n + k }) in
          let pushed : c.match-part.found.items ≡ found ++ x ∷ [] = ap (λ v. v.items) w.found-is ∙ w.in_ok-push-in-Slot.ensures.items in
          let size = ap total_size pushed ∙ total_size_push found x in
          let next : c.match-part.at ≡ at + (k + (n + n)) = w.at-is ∙ (let g : at + n + k + n ≡ at + (k + (n + n)) = omega arith in g) in
          let P : ℕ → Type 0 = λ m. Fits l n rest (slice_range l.tokens m to) (drop (j + 1) ks) in
          let Q : ℕ → Type 0 = λ m. Fits l n rest (slice_range l.tokens c.match-part.at to) (drop m ks) in
          record {
            inside = omega (arith, next);
            few = omega (arith, next, size, c.loop-part.invariant.few);
            within = subst (All (IsPlace l)) (sym pushed) (All-push (IsPlace l) found x c.loop-part.invariant.within (record { some = omega arith; within = omega arith }));
            fits = subst Q (sym w.slot-is) (subst P (sym next) f.rest);
            shared = ap (λ m. map (share_of l) c.match-part.found.items ++ shares n rest (drop m ks) (slice_range l.tokens c.match-part.at to)) w.slot-is
                ∙ ap (λ m. map (share_of l) c.match-part.found.items ++ shares n rest (drop (j + 1) ks) (slice_range l.tokens m to)) next
                ∙ shared_more l found c.match-part.found.items x (shares n rest (drop (j + 1) ks) (slice_range l.tokens (at + (k + (n + n))) to)) (shares n (drop i parts) (drop j ks) (slice_range l.tokens at to)) pushed
                (shares_slot l n (drop i parts) rest w.in-Slot.field-0 at to (at + n) (at + n + k) ks j e f.there refl refl within)
                ∙ c.loop-part.invariant.shared;
          }
    ]
