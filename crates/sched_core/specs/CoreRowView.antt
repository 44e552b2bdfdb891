-- What contracts see of a row of orders. The room is the capacity that is not used yet.
use Rattle.std.specs.Prelude.{◌-◌}
use Rattle.std.specs.Vec.{vec_len, vec_capacity}
use Rattle.sched_core.specs.CoreRows.{RowData}
use Rattle.sched_core.specs.declared.order_row.OrderRow.TheInside.{Inside}

-- the orders that are stored, who is held, and the capacity that is left
abbrev pub row_view : Inside → RowData
row_view a = record {
  orders = a.orders.items;
  held = a.held;
  room = vec_capacity a.orders - vec_len a.orders;
}
