-- What the characters of a text are for: this project's profile.
use Rattle.std.specs.Prelude.{ℕ, ◌==◌, Bool, false, not, nat_lt, ◌&&◌, ◌||◌, if◌then◌else◌, Option, Some, None, List, [], ◌∷◌}
use Rattle.unicode_ident.specs.Ident.{is_xid_continue}
use Rattle.le_layout.specs.declared.token.Kind.{Kind}
use Rattle.le_layout.specs.declared.token.Kind.TheVariants as kinds

-- a space, a tab or a no-break space separates tokens
unfoldable pub is_space : ℕ → Bool
is_space c = (c == 32) || ((c == 9) || (c == 160))

-- the signs `-` `'` `/` `&` `+` `@` `#` `$` stand in words
unfoldable pub is_ascii_sign : ℕ → Bool
is_ascii_sign c = (c == 45) || ((c == 39) || ((c == 47) || ((c == 38) || ((c == 43) || ((c == 64) || ((c == 35) || (c == 36)))))))

-- and so do `’`, `£` and `€`
unfoldable pub is_further_sign : ℕ → Bool
is_further_sign c = (c == 8217) || ((c == 163) || (c == 8364))

-- a character of words is one that may continue an identifier (Unicode Standard Annex 31), or one of the signs
unfoldable pub is_word_character : ℕ → Bool
is_word_character c = is_xid_continue c || (is_ascii_sign c || is_further_sign c)

-- a quoted text may hold any character but those below U+0020 and U+007F; a quotation mark ends it
unfoldable pub may_be_quoted : ℕ → Bool
may_be_quoted c = not (nat_lt c 32) && not (c == 127)

-- a comment may hold any character but CR
unfoldable pub may_be_commented : ℕ → Bool
may_be_commented c = not (c == 13)

-- the kind of the token that a character outside words and quoted texts is; any other character is none
unfoldable pub kind_of : ℕ → Option Kind
kind_of c =
    if c == 44 then Some kinds.Comma
    else (if c == 58 then Some kinds.Colon
    else (if c == 42 then Some kinds.Star
    else (if c == 46 then Some kinds.Stop
    else (if c == 91 then Some kinds.Open
    else (if c == 93 then Some kinds.Close
    else (if c == 124 then Some kinds.Bar
    else None))))))

-- whether a text begins with this character
abbrev pub begins_with : ℕ → List ℕ → Bool
begins_with c [] = false
begins_with c (d ∷ ds) = d == c
