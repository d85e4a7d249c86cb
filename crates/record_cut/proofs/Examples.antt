-- Worked examples of the grammar, and of the text of a row.
use Rattle.std.proofs.Common.{◌≡◌, [], ◌∷◌, refl}
use Rattle.std.specs.Prelude.{codes}
use Rattle.record_cut.specs.Field.{quoted, plain, field_at, after_field}
use Rattle.record_cut.specs.Record.{record_within, record_at, Nothing, Fields, OpenField, CrAfterQuote}
use Rattle.record_cut.specs.Records.{Fault, Rest, records_within, records_from, without_mark, text_from, records}
use Rattle.record_cut.specs.Row.{doubled, text_of_others, text_of_row}
use Rattle.record_cut.specs.declared.fault.CutFault.TheVariants.{BadQuote}

-- an empty text
empty : records 44 [] ≡ record { records = []; onward = Rest Nothing }
unfolding records text_from without_mark records_from records_within record_at record_within after_field field_at plain quoted
empty = refl

-- line breaks of both kinds, and two quotes in a quoted field
two_lines : records 44 (codes "a,b\n\"c,\"\"d\"\r\n") ≡ record { records = (codes "a" ∷ codes "b" ∷ []) ∷ (codes "c,\"d" ∷ []) ∷ []; onward = Rest Nothing }
unfolding records text_from without_mark records_from records_within record_at record_within after_field field_at plain quoted
two_lines = refl

-- a last record without a line break
unended : records 44 (codes "a\nb,") ≡ record { records = (codes "a" ∷ []) ∷ []; onward = Rest (Fields (codes "b" ∷ [] ∷ [])) }
unfolding records text_from without_mark records_from records_within record_at record_within after_field field_at plain quoted
unended = refl

-- empty lines are no records
empty_lines : records 44 (codes "\n\r\na\n\n") ≡ record { records = (codes "a" ∷ []) ∷ []; onward = Rest Nothing }
unfolding records text_from without_mark records_from records_within record_at record_within after_field field_at plain quoted
empty_lines = refl

-- one empty quoted field
empty_quoted : records 44 (codes "\"\"\n") ≡ record { records = ([] ∷ []) ∷ []; onward = Rest Nothing }
unfolding records text_from without_mark records_from records_within record_at record_within after_field field_at plain quoted
empty_quoted = refl

-- a line feed and a separator inside quotes
quoted_break : records 44 (codes "\"a\n,b\"\n") ≡ record { records = (codes "a\n,b" ∷ []) ∷ []; onward = Rest Nothing }
unfolding records text_from without_mark records_from records_within record_at record_within after_field field_at plain quoted
quoted_break = refl

-- a lone carriage return is a byte of an unquoted field
lone_cr : records 44 (codes "a\rb\r\n\r") ≡ record { records = (codes "a\rb" ∷ []) ∷ []; onward = Rest (Fields (codes "\r" ∷ [])) }
unfolding records text_from without_mark records_from records_within record_at record_within after_field field_at plain quoted
lone_cr = refl

-- a quote in an unquoted field
quote_within : records 44 (codes "a\nb\"c\n") ≡ record { records = (codes "a" ∷ []) ∷ []; onward = Fault BadQuote 3 }
unfolding records text_from without_mark records_from records_within record_at record_within after_field field_at plain quoted
quote_within = refl

-- a byte directly after a closing quote
after_quote : records 44 (codes "\"a\"b\n") ≡ record { records = []; onward = Fault BadQuote 3 }
unfolding records text_from without_mark records_from records_within record_at record_within after_field field_at plain quoted
after_quote = refl

-- a carriage return after a closing quote, and then no line feed
cr_after_quote : records 44 (codes "\"a\"\rb") ≡ record { records = []; onward = Fault BadQuote 4 }
unfolding records text_from without_mark records_from records_within record_at record_within after_field field_at plain quoted
cr_after_quote = refl

-- the same as the last byte
last_cr_after_quote : records 44 (codes "\"a\"\r") ≡ record { records = []; onward = Rest CrAfterQuote }
unfolding records text_from without_mark records_from records_within record_at record_within after_field field_at plain quoted
last_cr_after_quote = refl

-- a quoted field that no quote closes
open_quote : records 44 (codes "a\n\"b,\n") ≡ record { records = (codes "a" ∷ []) ∷ []; onward = Rest OpenField }
unfolding records text_from without_mark records_from records_within record_at record_within after_field field_at plain quoted
open_quote = refl

-- a mark before an empty text
mark_alone : records 44 (239 ∷ 187 ∷ 191 ∷ []) ≡ record { records = []; onward = Rest Nothing }
unfolding records text_from without_mark records_from records_within record_at record_within after_field field_at plain quoted
mark_alone = refl

-- the first two bytes of a mark are a field
half_mark : records 44 (239 ∷ 187 ∷ codes "\n") ≡ record { records = ((239 ∷ 187 ∷ []) ∷ []) ∷ []; onward = Rest Nothing }
unfolding records text_from without_mark records_from records_within record_at record_within after_field field_at plain quoted
half_mark = refl

-- a second mark is a field
two_marks : records 44 (239 ∷ 187 ∷ 191 ∷ 239 ∷ 187 ∷ 191 ∷ codes "\n") ≡ record { records = ((239 ∷ 187 ∷ 191 ∷ []) ∷ []) ∷ []; onward = Rest Nothing }
unfolding records text_from without_mark records_from records_within record_at record_within after_field field_at plain quoted
two_marks = refl

-- a row
plain_row : text_of_row 44 (codes "a" ∷ codes "b c" ∷ []) ≡ codes "a,b c\n"
unfolding text_of_row text_of_others doubled
plain_row = refl

-- a separator and a quote
quoted_row : text_of_row 44 (codes "a,b" ∷ codes "c\"d" ∷ []) ≡ codes "\"a,b\",\"c\"\"d\"\n"
unfolding text_of_row text_of_others doubled
quoted_row = refl

-- bytes of line breaks
breaks_row : text_of_row 44 (codes "a\rb" ∷ codes "c\nd" ∷ []) ≡ codes "\"a\rb\",\"c\nd\"\n"
unfolding text_of_row text_of_others doubled
breaks_row = refl

-- a row's only field
empty_row : text_of_row 44 ([] ∷ []) ≡ codes "\"\"\n"
unfolding text_of_row text_of_others doubled
empty_row = refl

-- two empty fields
two_empty_row : text_of_row 44 ([] ∷ [] ∷ []) ≡ codes ",\n"
unfolding text_of_row text_of_others doubled
two_empty_row = refl

-- a mark in the row's first field, and in another
marks_row : text_of_row 44 ((239 ∷ 187 ∷ 191 ∷ []) ∷ (239 ∷ 187 ∷ 191 ∷ []) ∷ []) ≡ 34 ∷ 239 ∷ 187 ∷ 191 ∷ 34 ∷ 44 ∷ 239 ∷ 187 ∷ 191 ∷ 10 ∷ []
unfolding text_of_row text_of_others doubled
marks_row = refl
