-- The monitors that a thread owns, told from its own list.
use Rattle.std.specs.Prelude.{◌≡◌, ℕ, ◌+◌, ◌-◌, ◌<◌, ◌≤◌, ◌==◌, ◌↔◌, if◌then◌else◌, List, Contains, fold, slice_index_or}
use Rattle.gl_model.specs.declared.event.Act.{Act}
use Rattle.gl_model.specs.declared.event.Act.TheVariants.{Begin, End, Acq, Rel, VRead, VWrite, Fork, Join, Alloc, Print, Input, Fail}
use Rattle.gl_model.specs.declared.limits.TheConstants.{MONITORS}
use Rattle.gl_model.specs.Entries.{Entry, Sync, Commit, Plain, Abort, Trim, Over}
use Rattle.gl_model.specs.Rising.{Rises}

-- how often the monitor m is entered and not left after the act, where it was so often before it
abbrev pub depth_after_act : ℕ → ℕ → Act → ℕ
depth_after_act m depth (Begin f) = depth
depth_after_act m depth End = depth
depth_after_act m depth (Acq o) = if o == m then depth + 1 else depth
depth_after_act m depth (Rel o) = if o == m then depth - 1 else depth
depth_after_act m depth (VRead v) = depth
depth_after_act m depth (VWrite v) = depth
depth_after_act m depth (Fork w f) = depth
depth_after_act m depth (Join w) = depth
depth_after_act m depth (Alloc c) = depth
depth_after_act m depth Print = depth
depth_after_act m depth Input = depth
depth_after_act m depth (Fail k) = depth

-- and after the entry
abbrev pub depth_after : ℕ → ℕ → Entry → ℕ
depth_after m depth (Sync at act value) = depth_after_act m depth act
depth_after m depth (Commit at tx) = depth
depth_after m depth (Plain var nth cached write value raised) = depth
depth_after m depth (Abort tx why) = depth
depth_after m depth (Trim low) = depth
depth_after m depth (Over ending) = depth

-- how often the thread of these entries has entered the monitor m and not left it
abbrev pub depth : ℕ → List Entry → ℕ
depth m es = fold (depth_after m) 0 es

-- these are the monitors that the thread of these entries owns after them, rising
pub record AreOwned (es : List Entry) (monitors : List ℕ) : Type 0 where
  pub rises : Rises monitors
  pub each : (m : ℕ) → Contains monitors m ↔ (0 < depth m es)

-- the table has how often each monitor is entered after these entries
abbrev pub AreDepths : List Entry → List ℕ → Type 0
AreDepths es depths = (m : ℕ) → m < MONITORS → slice_index_or depths m 0 ≡ depth m es

-- none is entered more often than this
abbrev pub AreWithin : ℕ → List ℕ → Type 0
AreWithin most depths = (m : ℕ) → m < MONITORS → slice_index_or depths m 0 ≤ most
