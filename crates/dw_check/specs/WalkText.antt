-- The text of a walk up the stack: a line for each frame, counted from 0, and a line that says why
-- there are no more.
use Rattle.std.specs.Prelude.{ℕ, List, ◌++◌, Option, Some, None, codes, decimal}
use Rattle.std.specs.List.{flat_map, enumerate_from}
use Rattle.dw_bytes.specs.declared.target.AddressSize.{AddressSize}
use Rattle.dw_unwind.specs.Caller.{Answer}
use Rattle.dw_check.specs.CallerText.{answer_text}
use Rattle.dw_check.specs.Text.{address_text}
use Rattle.dw_unwind.specs.Walks.{WalkedFrame}
use Rattle.dw_unwind.specs.WalkViews.{brief_of}
use Rattle.dw_unwind.specs.declared.frames.Stop.{Stop}
use Rattle.dw_unwind.specs.declared.frames.Stop.TheVariants.{Limit, NotCovered, ReturnUndefined, ReturnUnreadable, ReturnDivisionByZero}

-- the CFA of a frame, or `none` if no FDE covers the frame
abbrev pub cfa_text : AddressSize → Option Answer → List ℕ
cfa_text size (Some cfa) = codes "cfa " ++ answer_text size cfa
cfa_text size None = codes "none"

-- the line of a frame: its number, its address and its CFA
unfoldable pub brief_line : AddressSize → ℕ → ℕ × Option Answer → List ℕ
brief_line size n (address, cfa) =
    codes "frame " ++ decimal n ++ codes " " ++ address_text size address ++ codes " " ++ cfa_text size cfa ++ codes "\n"

abbrev pub walked_line : AddressSize → ℕ × WalkedFrame → List ℕ
walked_line size (n, frame) = brief_line size n (brief_of frame)

-- why there are no more frames
abbrev pub stop_text : Stop → List ℕ
stop_text Limit = codes "limit"
stop_text NotCovered = codes "not covered"
stop_text ReturnUndefined = codes "return undefined"
stop_text ReturnUnreadable = codes "return unreadable"
stop_text ReturnDivisionByZero = codes "return division by zero"

unfoldable pub last_line : Stop → List ℕ
last_line stop = codes "stop " ++ stop_text stop ++ codes "\n"

-- the lines of frames; the first frame has number n
abbrev pub frames_text : AddressSize → ℕ → List WalkedFrame → List ℕ
frames_text size n frames = flat_map (walked_line size) (enumerate_from n frames)

unfoldable pub walk_text : AddressSize → List WalkedFrame → Stop → List ℕ
walk_text size frames stop = frames_text size 0 frames ++ last_line stop
