-- What the device of a player holds: its pages, and the writes that wait.
use Rattle.std.specs.Prelude.{◌≡◌, ℕ, List, Ok, Err, vec_items, Result}
use Rattle.std.specs.declared.alloc.AllocError.{AllocError}
use Rattle.model.specs.Mail.{each}
use Rattle.model.specs.Run.{queued}
use Rattle.model.specs.Device.{Page, Write, set_page, page_at, half, Device as PageDevice}
use Rattle.days.specs.declared.device.Device.{Device}
use Rattle.days.specs.declared.device.Leaves.{Leaves}
use Rattle.days.specs.declared.device.Leaves.TheVariants.{Nothing, All, Half}
use Rattle.days.specs.declared.device.Waiting.{Waiting}

abbrev pub write_of : Waiting → Write
write_of w = record { at = w.page; page = w.bytes }

abbrev pub device_of : Device → PageDevice
device_of d = record { pages = vec_items d.pages; queue = each write_of (vec_items d.waiting) }

-- the number by which a stop is told what to leave of a write
abbrev pub leaves_number : Leaves → ℕ
leaves_number Nothing = 0
leaves_number All = 1
leaves_number Half = 2

-- what a page holds after a write of which so much is left
abbrev pub left_of : Leaves → Page → Page → Page
left_of Nothing new old = old
left_of All new old = new
left_of Half new old = half new old

-- pages after such a write
abbrev pub placed : Leaves → Write → List Page → List Page
placed c w ps = set_page ps w.at (left_of c w.page (page_at ps w.at))

-- after a write was asked for: it waits; without memory nothing changes
abbrev pub Wrote : PageDevice → ℕ → Page → Result (Unit {0}) AllocError → PageDevice → Type 0
Wrote d k p (Ok _) e = e ≡ queued d k p
Wrote d k p (Err f) e = e ≡ d
