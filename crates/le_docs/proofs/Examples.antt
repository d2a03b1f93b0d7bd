-- Worked examples of the definitions.
use Rattle.std.proofs.Common.{◌≡◌, ℕ, [], ◌∷◌, None, Some, true, false, refl}
use Rattle.le_base.specs.declared.code.Code.TheVariants.{UnknownHeader, NoStop}
use Rattle.le_layout.specs.declared.token.Kind.{Kind}
use Rattle.le_layout.specs.declared.token.Kind.TheVariants.{Word, Comma, Stop}
use Rattle.le_layout.specs.declared.token.Token.{Token}
use Rattle.le_layout.specs.declared.fault.Fault.{Fault}
use Rattle.le_docs.specs.Faults.{least_from}
use Rattle.le_docs.specs.Cuts.{last, part, parts_of, spans_at, open_at}

token : Kind → Token
token kind = record { kind = kind; from = 0; to = 0; line = 1; column = 1 }

fault : ℕ → Fault
fault place = record { code = NoStop; place = place }

-- a comma ends a template and no sentence
commas : parts_of true (token Word ∷ token Comma ∷ token Word ∷ []) ≡ part 1 (last 1)
unfolding parts_of token
commas = refl

no_commas : parts_of false (token Word ∷ token Comma ∷ token Stop ∷ []) ≡ part 2 (last 0)
unfolding parts_of token
no_commas = refl

-- two tokens and a full stop, a full stop alone, and one token that isn't ended
spans : spans_at 3 (part 2 (part 0 (last 1))) ≡ record { from = 3; to = 5 } ∷ record { from = 7; to = 8 } ∷ []
spans = refl

unended : open_at 3 (part 2 (part 0 (last 1))) ≡ record { from = 7; to = 8 } ∷ []
unended = refl

-- the least place decides, and at one place the least number
places : least_from None (fault 5 ∷ fault 3 ∷ fault 4 ∷ []) ≡ Some (fault 3)
unfolding fault
places = refl

numbers : least_from None (fault 5 ∷ record (fault 5) { code = UnknownHeader } ∷ []) ≡ Some (record (fault 5) { code = UnknownHeader })
unfolding fault
numbers = refl
