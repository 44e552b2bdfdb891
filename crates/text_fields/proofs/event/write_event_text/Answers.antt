use Rattle.text_fields.proofs.Written.{arrival_written, departure_written, tick_written, affinity_written, offline_written, online_written}
use Rattle.text_fields.proofs.event.write_event_text.Goals as goal

pub returns-in_ok-write_name-in-Arrive : goal.returns-in_ok-write_name-in-Arrive
returns-in_ok-write_name-in-Arrive c =
    arrival_written c.args.set.now c.args.event c.in-Arrive.t _ _ _ c.in-Arrive.is
    c.in_ok-extend_from_slice-in-Arrive.ensures.items c.in_ok-write_name-in-Arrive.ensures

pub returns-in_ok-write_name-in-Depart : goal.returns-in_ok-write_name-in-Depart
returns-in_ok-write_name-in-Depart c =
    departure_written c.args.set.now c.args.event c.in-Depart.t _ _ _ c.in-Depart.is
    c.in_ok-extend_from_slice-in-Depart.ensures.items c.in_ok-write_name-in-Depart.ensures

pub returns-in_ok-write_number-in-Tick : goal.returns-in_ok-write_number-in-Tick
returns-in_ok-write_number-in-Tick c =
    tick_written c.args.set.now c.args.event c.in-Tick.units _ _ _ c.in-Tick.is
    c.in_ok-extend_from_slice-in-Tick.ensures.items c.in_ok-write_number-in-Tick.ensures

pub returns-in_ok-write_list-in-Affinity : goal.returns-in_ok-write_list-in-Affinity
returns-in_ok-write_list-in-Affinity c =
    affinity_written c.args.set.now c.args.event c.in-Affinity.task c.in-Affinity.mask _ _ _ _ _ c.in-Affinity.is
    c.in_ok-extend_from_slice-in-Affinity.ensures.items c.in_ok-write_name-in-Affinity.ensures
    c.in_ok-push-in-Affinity.ensures.items c.in_ok-write_list-in-Affinity.ensures.written

pub returns-in_ok-write_number-in-Offline : goal.returns-in_ok-write_number-in-Offline
returns-in_ok-write_number-in-Offline c =
    offline_written c.args.set.now c.args.event c.in-Offline.p _ _ _ c.in-Offline.is
    c.in_ok-extend_from_slice-in-Offline.ensures.items c.in_ok-write_number-in-Offline.ensures

pub returns-in_ok-write_number-in-Online : goal.returns-in_ok-write_number-in-Online
returns-in_ok-write_number-in-Online c =
    online_written c.args.set.now c.args.event c.in-Online.p _ _ _ c.in-Online.is
    c.in_ok-extend_from_slice-in-Online.ensures.items c.in_ok-write_number-in-Online.ensures
