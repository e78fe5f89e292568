use Rattle.gpu_answers.proofs.Keeping.{room_for_one}
use Rattle.gpu_answers.proofs.held.HeldObjects.make_room.Goals as goal

pub returns-clause-room : goal.returns-clause-room
returns-clause-room c =
    room_for_one _ _ _ _ _ _ c.in_ok-count.ensures.room c.self.ranges.1.0.1 c.if-self.false c.in_ok-count.ensures.count c.in_ok-reserve.ensures.ok
