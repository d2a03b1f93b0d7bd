-- How the code spells the table of the predefined templates.
use Rattle.std.specs.Prelude.{List, map}
use Rattle.le_templates.specs.declared.part.Part.{Part}
use Rattle.le_templates.specs.declared.part.Part.TheVariants.{Word, Slot}
use Rattle.le_templates.specs.declared.part.Template.{Template}
use Rattle.le_templates.specs.declared.predefined.Written.{Written}
use Rattle.le_templates.specs.declared.predefined.Written.TheVariants as written

-- a word or a slot, as it is spelled
abbrev pub part_written : Written → Part
part_written (written.W word) = Word word.now
part_written (written.S phrase) = Slot phrase.now

-- the template of a row
abbrev pub row_written : List Written → Template
row_written row = record { parts = map part_written row }
