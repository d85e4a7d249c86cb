use Rattle.std.proofs.Common.{refl, [], ◌∷◌, arith, add-one}
use Rattle.std.proofs.lemmas.Result.{err_from_is_err_and}
use Rattle.record_cut.specs.Feeds.{GoesOn, EndsRecord, FailsAt, Feeds}
use Rattle.record_cut.specs.declared.fault.CutFault.TheVariants.{RecordTooLong}
use Rattle.record_cut.proofs.Standing.{same-sep, fed-long, fed-to, fed-end, fed-skip, fed-keep, fed-err}
use Rattle.record_cut.proofs.cutter.Cutter.step.Goals as goal

pub returns-then-self-ge-LONGEST : goal.returns-then-self-ge-LONGEST
returns-then-self-ge-LONGEST c = λ sep bytes. same-sep c.args.self.now sep bytes (λ s. FailsAt s bytes (c.args.byte ∷ []) RecordTooLong) (fed-long c.args.self.now c.args.byte bytes c.if-self-ge-LONGEST.true)

pub returns-in-To : goal.returns-in-To
returns-in-To c = λ sep bytes. same-sep c.args.self.now sep bytes (λ s. GoesOn s bytes (c.args.byte ∷ []) [] _) (fed-to c.args.self.now _ c.args.byte bytes c.in-Read.place c.in-To.next c.in_ok-next-in-Read.field-0 c.in-Read.ensures c.in_ok-next-in-Read.ensures.moves c.in-To.is refl refl refl)

pub returns-in_ok-end_record-in-EndRecord : goal.returns-in_ok-end_record-in-EndRecord
returns-in_ok-end_record-in-EndRecord c = λ sep bytes. same-sep c.args.self.now sep bytes (λ s. EndsRecord s bytes (c.args.byte ∷ []) c.in_ok-end_record-in-EndRecord.field-0 c.end_record.new.self) (fed-end c.args.self.now c.end_record.new.self c.args.byte bytes c.in-Read.place c.in_ok-next-in-Read.field-0 c.read.new.draft c.in_ok-end_record-in-EndRecord.field-0 c.in-Read.ensures c.in_ok-next-in-Read.ensures.moves c.in-EndRecord.is c.in_ok-end_record-in-EndRecord.ensures.fields (omega arith) c.in_ok-end_record-in-EndRecord.ensures.sep c.in_ok-end_record-in-EndRecord.ensures.begun)

pub returns-in-Skip : goal.returns-in-Skip
returns-in-Skip c = λ sep bytes. same-sep c.args.self.now sep bytes (λ s. GoesOn s bytes (c.args.byte ∷ []) [] c.begin.new.self) (fed-skip c.args.self.now c.begin.new.self c.args.byte bytes c.in-Skip.ensures c.begin.ensures.sep c.begin.ensures.begun)

pub returns-in_ok-add-in-Keep : goal.returns-in_ok-add-in-Keep
returns-in_ok-add-in-Keep c = λ sep bytes. same-sep c.args.self.now sep bytes (λ s. GoesOn s bytes (c.args.byte ∷ []) [] _) (fed-keep c.args.self.now _ c.args.byte bytes c.in-Keep.phase c.in-Keep.ensures c.add.ensures.fields c.in_ok-add-in-Keep.ensures.field refl refl (add-one c.args.self.now.count))

pub returns-in_err-next-in-Read : goal.returns-in_err-next-in-Read
returns-in_err-next-in-Read c = λ sep before.
    let p = err_from_is_err_and c.from_residual.result c.from_residual.ensures.1 in
    same-sep c.args.self.now sep before (λ s. Feeds s before (c.args.byte ∷ []) c.from_residual.result _) (λ stands. rw (p.1, p.2) (fed-err c.args.self.now _ c.args.byte before c.in-Read.place c.read.new.draft c.in_err-next-in-Read.field-0.0 c.in-Read.ensures c.in_err-next-in-Read.ensures.moves (omega arith) stands))
