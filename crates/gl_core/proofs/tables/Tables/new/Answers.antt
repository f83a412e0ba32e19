use Rattle.std.proofs.Common.{refl, ap}
use Rattle.gl_core.specs.Cells.{cell}
use Rattle.gl_core.proofs.Taken.{first_known}
use Rattle.gl_core.proofs.tables.Tables.new.Goals as goal

pub returns : goal.returns
returns c = (
  record {
    monitors = c.in_ok-room_for_clocks.ensures.0;
    volatiles = c.in_ok-room_for_clocks-2.ensures.0;
    variables = c.in_ok-room_for_clocks-3.ensures.0;
  },
  record {
    next = refl;
    clocks = first_known
        (record {
          threads = c.first_threads.result;
          monitors = c.in_ok-room_for_clocks.field-0;
          volatiles = c.in_ok-room_for_clocks-2.field-0;
          variables = c.in_ok-room_for_clocks-3.field-0;
          next = 0;
        }) c.first_threads.ensures
        (λ o u. ap (λ t. cell t o u) c.in_ok-room_for_clocks.ensures.1) (λ o u. ap (λ t. cell t o u) c.in_ok-room_for_clocks-2.ensures.1)
        (λ o u. ap (λ t. cell t o u) c.in_ok-room_for_clocks-3.ensures.1);
  },
)
