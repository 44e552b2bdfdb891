-- Where things stand on the page, from above: the lanes of the trace, those of strong scheduling,
-- and the rows, each below the one before it.
use Rattle.std.specs.Prelude.{ℕ, ◌+◌, ◌*◌}
use Rattle.trace_picture.specs.declared.page.Page.{Page}

abbrev pub strong_top : Page → ℕ
strong_top page = 56 + 24 * page.lanes + 28

abbrev pub rows_top : Page → ℕ
rows_top page = strong_top page + 24 * page.processors + 28

abbrev pub bottom : Page → ℕ
bottom page = rows_top page + 16 * page.rows
