use Rattle.std.proofs.Common.{◌≡◌, ◌<◌, length, take, arith}
use Rattle.screen_online.specs.declared.stream.TheConstants.{PIECE}
use Rattle.screen_online.proofs.Reading.{front_at_most, front_of_one, room_after}
use Rattle.screen_online.proofs.Underway.{at_end_still, ends, goes_on, piece_ends, starts, starts_not_so, too_many_so}
use Rattle.screen_online.proofs.stream.repair_all.Goals as goal

pub returns-in-Err : goal.returns-in-Err
returns-in-Err g c =
    starts_not_so g.S.Source.left g.S.Source.faults g.K.Sink.held g.K.Sink.faults c.args.rules.now c.in-Err.fault c.from.result c.args.readings.now c.args.out.now c.from.ensures c.in-Err.ensures.started

pub loop-room-init : goal.loop-room-init
loop-room-init g c =
    starts g.S.Source.left g.S.Source.faults g.K.Sink.held g.K.Sink.faults c.args.rules.now c.in-Ok.online c.args.readings.now c.args.out.now c.in-Ok.ensures.started.0 c.in-Ok.ensures.started.1

pub returns-then-count-eq0 : goal.returns-then-count-eq0
returns-then-count-eq0 g c =
    let way = c.loop-room.invariant in
    let none : c.in-Ok-read_piece.count ≡ 0 = c.if-count-eq0.true in
    ends g.S.Source.left g.S.Source.faults g.K.Sink.held g.K.Sink.faults c.args.rules.now c.loop-room.room c.loop-room.online c.finish.new.online c.finish.new.text.items
    c.args.readings.now c.loop-room.readings c.read_piece.new.readings c.args.out.now c.loop-room.out c.finish.new.out c.finish.result way
    (at_end_still g.S.Source.left g.S.Source.faults g.K.Sink.held g.K.Sink.faults c.args.rules.now c.loop-room.room c.loop-room.online c.args.readings.now c.loop-room.readings c.read_piece.new.readings c.args.out.now c.loop-room.out
    way c.in-Ok-read_piece.count c.read_piece.new.piece none c.in-Ok-read_piece.ensures.taken)
    (c.in-Ok-read_piece.ensures.at_end none) c.in-Ok-read_piece.ensures.unfailed (c.finish.ensures c.args.rules.now way.came way.stands)

pub loop-room-preserved : goal.loop-room-preserved
loop-room-preserved g c =
    let way = c.loop-room.invariant in
    let count = c.in-Ok-read_piece.count in
    let piece = c.read_piece.new.piece in
    let long : length c.read_piece.new.piece ≡ PIECE = omega arith in
    goes_on g.S.Source.left g.S.Source.faults g.K.Sink.held g.K.Sink.faults c.args.rules.now c.loop-room.room _ c.loop-room.online c.feed.new.online (take count piece) c.feed.new.text.items
    c.args.readings.now c.loop-room.readings c.read_piece.new.readings c.args.out.now c.loop-room.out c.feed.new.out way
    c.in-Ok-read_piece.ensures.taken c.in-Ok-read_piece.ensures.unfailed
    (room_after piece count PIECE c.loop-room.room long c.in-Ok-read_piece.ensures.piece c.in-Ok-read_piece.ensures.room)
    (c.in-Ok-feed.ensures c.args.rules.now way.came way.stands)

pub returns-in-Err-feed : goal.returns-in-Err-feed
returns-in-Err-feed g c =
    let way = c.loop-room.invariant in
    let count = c.in-Ok-read_piece.count in
    let piece = c.read_piece.new.piece in
    let long : length c.read_piece.new.piece ≡ PIECE = omega arith in
    piece_ends g.S.Source.left g.S.Source.faults g.K.Sink.held g.K.Sink.faults c.args.rules.now c.loop-room.room c.loop-room.online c.feed.new.online (take count piece) c.feed.new.text.items
    c.args.readings.now c.loop-room.readings c.read_piece.new.readings c.args.out.now c.loop-room.out c.feed.new.out c.in-Err-feed.ending way
    c.in-Ok-read_piece.ensures.taken c.in-Ok-read_piece.ensures.unfailed
    (front_at_most piece count PIECE c.loop-room.room long c.in-Ok-read_piece.ensures.piece c.in-Ok-read_piece.ensures.room)
    (front_at_most piece count PIECE PIECE long c.in-Ok-read_piece.ensures.piece c.in-Ok-read_piece.ensures.piece)
    (c.in-Err-feed.ensures c.args.rules.now way.came way.stands)

pub returns-in-Ok-eq0 : goal.returns-in-Ok-eq0
returns-in-Ok-eq0 g c =
    let way = c.loop-room.invariant in
    let none : c.in-Ok-eq0.field-0 ≡ 0 = omega arith in
    ends g.S.Source.left g.S.Source.faults g.K.Sink.held g.K.Sink.faults c.args.rules.now c.loop-room.room c.loop-room.online c.finish-in-Ok-eq0.new.online c.finish-in-Ok-eq0.new.text.items
    c.args.readings.now c.loop-room.readings c.read_piece-2.new.readings c.args.out.now c.loop-room.out c.finish-in-Ok-eq0.new.out c.finish-in-Ok-eq0.result way
    (at_end_still g.S.Source.left g.S.Source.faults g.K.Sink.held g.K.Sink.faults c.args.rules.now c.loop-room.room c.loop-room.online c.args.readings.now c.loop-room.readings c.read_piece-2.new.readings c.args.out.now c.loop-room.out
    way c.in-Ok-eq0.field-0 c.read_piece-2.new.piece none c.in-Ok-eq0.ensures.taken)
    (c.in-Ok-eq0.ensures.at_end none) c.in-Ok-eq0.ensures.unfailed (c.finish-in-Ok-eq0.ensures c.args.rules.now way.came way.stands)

pub returns-in-Ok-read_piece-2 : goal.returns-in-Ok-read_piece-2
returns-in-Ok-read_piece-2 g c =
    let way = c.loop-room.invariant in
    let count = c.in-Ok-read_piece-2.field-0 in
    let piece = c.read_piece-2.new.piece in
    let long : length c.read_piece-2.new.piece ≡ PIECE = omega arith in
    let none : c.loop-room.room ≡ 0 = omega arith in
    let some : 0 < c.in-Ok-read_piece-2.field-0 = omega arith in
    too_many_so g.S.Source.left g.S.Source.faults g.K.Sink.held g.K.Sink.faults c.args.rules.now c.loop-room.room c.loop-room.online (take count piece) c.too_many_bytes.result
    c.args.readings.now c.loop-room.readings c.read_piece-2.new.readings c.args.out.now c.loop-room.out way none
    (front_of_one piece count PIECE long c.in-Ok-read_piece-2.ensures.piece c.in-Ok-read_piece-2.ensures.room some)
    c.in-Ok-read_piece-2.ensures.taken c.in-Ok-read_piece-2.ensures.unfailed c.too_many_bytes.ensures
