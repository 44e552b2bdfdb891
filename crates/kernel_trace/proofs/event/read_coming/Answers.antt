use Rattle.std.proofs.Common.{◌≡◌, true, codes}
use Rattle.text_fields.proofs.Words.{and_left, and_right}
use Rattle.kernel_trace.specs.Reading.{ends_view}
use Rattle.kernel_trace.specs.TraceLine.{LastFields, is_keyed, is_priority, is_coming}
use Rattle.kernel_trace.proofs.event.read_coming.Goals as goal

keyed : (ends : LastFields) → is_coming ends ≡ true → is_keyed (codes "next_pid=") ends.second ≡ true
unfolding is_coming
keyed ends comes = and_left (is_keyed (codes "next_pid=") ends.second) (is_priority (codes "next_prio=") ends.last) comes

ranked : (ends : LastFields) → is_coming ends ≡ true → is_priority (codes "next_prio=") ends.last ≡ true
unfolding is_coming
ranked ends comes = and_right (is_keyed (codes "next_pid=") ends.second) (is_priority (codes "next_prio=") ends.last) comes

pub id_of-requires : goal.id_of-requires
id_of-requires c = keyed (ends_view c.args.ends.now) c.requires

pub is_real_time-requires : goal.is_real_time-requires
is_real_time-requires c = ranked (ends_view c.args.ends.now) c.requires
