-- A `Right` in memory: it has no data field.
use Rattle.std.proofs.Common.{◌≡◌, List, [], ◌∷◌, refl}
use seplogic.Ra.Ura.{Ura}
use mir.Val.{Val, vstruct, vnil}
use base.Logic.{ent, emp}
use types.Logic.{Logic, sem}
use denote.RattleType.{RattleType}
use denote.Laws.{Is}
use denote.Shadow.{makes_shadow}
use denote.Struct.Struct.{Struct}
use denote.Struct.Owning.{shape}
use Rattle.dwcheck_c.specs.contracts.read_right.Right as right

abbrev pub mark : Val
mark = vstruct vnil

abbrev pub Data : RattleType
Data = Struct (shape right.the_type)

pub told : (vs : List Val) → Is Data tt vs → vs ≡ mark ∷ []
told vs is = is.1.0

pub made : {M : Type 1} {𝓤 : Ura M} (𝓛 : Logic 𝓤) → ent 𝓤 (emp 𝓤) (sem 𝓛 (Data.own_val tt (mark ∷ [])))
made 𝓛 = makes_shadow 𝓛 (Data.own_val tt (mark ∷ [])) (λ vss. (tt, tt)) (tt, (refl, tt))
