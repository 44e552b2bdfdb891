-- Room for the threads of a replay.
use Rattle.std.specs.Prelude.{◌≡◌, ◌≤◌, ℕ, []}
use Rattle.std.specs.Vec.{vec_capacity}
use Rattle.replay.specs.declared.rooms.Rooms.{Rooms}

-- empty lists, with room for so many workers and others, and for what they leave
pub record AreRooms {T B : Type 0} (crew others : ℕ) (rooms : Rooms T B) : Type 0 where
  pub for_workers : (rooms.workers.items ≡ []) × (crew ≤ vec_capacity rooms.workers)
  pub for_left : (rooms.left.items ≡ []) × (crew ≤ vec_capacity rooms.left)
  pub for_stopped : (rooms.stopped.items ≡ []) × (crew ≤ vec_capacity rooms.stopped)
  pub for_others : (rooms.others.items ≡ []) × (others ≤ vec_capacity rooms.others)
  pub for_back : (rooms.back.items ≡ []) × (others ≤ vec_capacity rooms.back)
