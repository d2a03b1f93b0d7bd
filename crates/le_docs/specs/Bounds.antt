-- Where headers and sections stand: this project's profile.
use Rattle.std.specs.Prelude.{ℕ, ◌<◌, ◌≤◌, All}
use Rattle.le_layout.specs.declared.span.Span.{Span}
use Rattle.le_docs.specs.declared.doc.Section.{Section}
use Rattle.le_docs.specs.declared.headers.Head.{Head}

-- a header and its name lie among so many tokens
pub record IsHeadOver (count : ℕ) (head : Head) : Type 0 where
  pub at : head.at < count
  pub name : head.name.to ≤ count

-- a sentence has at least one of so many tokens
pub record IsSentenceOver (count : ℕ) (span : Span) : Type 0 where
  pub some : span.from < span.to
  pub inside : span.to ≤ count

-- a section begins among so many tokens, and its sentences lie there
pub record IsSectionOver (count : ℕ) (section : Section) : Type 0 where
  pub at : section.at < count
  pub sentences : All (IsSentenceOver count) section.sentences
