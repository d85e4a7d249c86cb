use Rattle.std.proofs.Common.{[], ◌∷◌, Err}
use Rattle.record_cut.specs.Feeds.{Finishes, Ends}
use Rattle.record_cut.proofs.Standing.{same-sep}
use Rattle.record_cut.proofs.Finishing.{ended-nothing, ended-field, ended-cr, ended-refused}
use Rattle.record_cut.proofs.cutter.Cutter.end_text.Goals as goal

pub returns-in-Nothing : goal.returns-in-Nothing
returns-in-Nothing c = λ sep bytes. same-sep c.args.self.now sep bytes (λ s. Finishes s bytes [] c.begin.new.self) (ended-nothing c.args.self.now c.begin.new.self bytes c.in-Nothing.ensures c.begin.ensures.sep c.begin.ensures.begun)

pub returns-in_ok-end_record-in-Field : goal.returns-in_ok-end_record-in-Field
returns-in_ok-end_record-in-Field c = λ sep bytes. same-sep c.args.self.now sep bytes (λ s. Finishes s bytes (c.in_ok-end_record-in-Field.field-0 ∷ []) c.end_record.new.self) (ended-field c.args.self.now c.end_record.new.self bytes c.in_ok-end_record-in-Field.field-0 c.in-Field.ensures c.in_ok-end_record-in-Field.ensures.fields c.in_ok-end_record-in-Field.ensures.sep c.in_ok-end_record-in-Field.ensures.begun)

pub returns-in_ok-end_record-in-FieldAndCr : goal.returns-in_ok-end_record-in-FieldAndCr
returns-in_ok-end_record-in-FieldAndCr c = λ sep bytes. same-sep c.args.self.now sep bytes (λ s. Finishes s bytes (c.in_ok-end_record-in-FieldAndCr.field-0 ∷ []) c.end_record-in-FieldAndCr.new.self) (ended-cr c.args.self.now c.end_record-in-FieldAndCr.new.self bytes c.in_ok-end_record-in-FieldAndCr.field-0 c.in-FieldAndCr.ensures c.in_ok-end_record-in-FieldAndCr.ensures.fields c.in_ok-end_record-in-FieldAndCr.ensures.sep c.in_ok-end_record-in-FieldAndCr.ensures.begun)

pub returns-in-Refuse : goal.returns-in-Refuse
returns-in-Refuse c = λ sep bytes. same-sep c.args.self.now sep bytes (λ s. Ends s bytes (Err c.in-Refuse.fault) _) (ended-refused c.args.self.now _ bytes c.in-Refuse.fault c.in-Refuse.ensures)
