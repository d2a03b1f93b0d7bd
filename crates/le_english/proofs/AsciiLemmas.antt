-- Words of ASCII characters.
use Rattle.std.proofs.Common.{◌≡◌, ℕ, ◌<◌, true, false, List, [], ◌∷◌, IsUtf8, chars, ap, ◌∙◌}
use Rattle.std.proofs.lemmas.Str.{IsUtf8-nil, chars-nil}
use Rattle.le_layout.specs.Pieces.{is_word as is_word_text}
use Rattle.le_layout.specs.Faults.{is_bad_number, is_bad_date}
use Rattle.le_layout.specs.Written.{IsWordText}
use Rattle.le_layout.proofs.JoinLemmas.{cons_utf8, cons_chars}

abbrev pub all_small : List ℕ → Type 0
all_small [] = Unit {0}
all_small (c ∷ cs) = (c < 128) × all_small cs

small-utf8 : (cs : List ℕ) → all_small cs → IsUtf8 cs
small-utf8 [] h = IsUtf8-nil
small-utf8 (c ∷ cs) h = cons_utf8 c cs h.0 (small-utf8 cs h.1)

small-chars : (cs : List ℕ) → all_small cs → chars cs ≡ cs
small-chars [] h = chars-nil
small-chars (c ∷ cs) h = cons_chars c cs h.0 ∙ ap (λ xs. c ∷ xs) (small-chars cs h.1)

pub ascii-word : (cs : List ℕ) → all_small cs → is_word_text cs ≡ true → is_bad_number cs ≡ false → is_bad_date cs ≡ false → IsWordText cs
ascii-word cs h w n d = record { utf8 = small-utf8 cs h; word = ap is_word_text (small-chars cs h) ∙ w; number = n; date = d }
