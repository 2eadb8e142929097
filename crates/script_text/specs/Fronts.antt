-- What a line outside a block says, as the code holds it.
use Rattle.std.specs.Prelude.{ℕ, ◌≡◌, ◌<◌, ◌≤◌, ◌^◌, ⊤, Bool, true, false, List, [], ◌∷◌, Result, Ok, Err}
use Rattle.lake_model.specs.Texts.{Text}
use Rattle.script_model.specs.declared.Reason.{Reason}
use Rattle.script_model.specs.Saying as model
use Rattle.commands.specs.Tasks.{IsTaskInRange, task_of}
use Rattle.script_text.specs.Readings.{body_size}
use Rattle.script_text.specs.declared.front.Form.{Form}
use Rattle.script_text.specs.declared.front.Form.TheVariants as form
use Rattle.script_text.specs.declared.front.Front.{Front}
use Rattle.script_text.specs.declared.front.Front.TheVariants.{Load, Replace, Search, Contain, AsOf}
use Rattle.script_text.specs.declared.front.Said.{Said}
use Rattle.script_text.specs.declared.front.Said.TheVariants.{Nothing, Sync, Opens, Does, Fetches}

abbrev pub has_none : List Text → Bool
has_none [] = true
has_none (word ∷ words) = false

-- none, or more than one
abbrev pub IsNotOne : List Text → Type 0
IsNotOne [] = ⊤
IsNotOne (word ∷ []) = ⊥
IsNotOne (word ∷ other ∷ words) = ⊤

abbrev pub form_of : Form → model.Form
form_of form.Load = model.LoadForm
form_of form.LoadFile = model.LoadFileForm
form_of form.Drop = model.DropForm
form_of form.Replace = model.ReplaceForm
form_of form.Tables = model.TablesForm
form_of form.Search = model.SearchForm
form_of form.Like = model.LikeForm
form_of form.Contain = model.ContainForm
form_of form.AsOf = model.AsOfForm
form_of form.Merge = model.MergeForm
form_of form.Sync = model.SyncForm

abbrev pub front_of : Front → model.Front
front_of (Load name) = model.LoadBlock name
front_of (Replace name) = model.ReplaceBlock name
front_of (Search k) = model.SearchBlock k
front_of (Contain a b) = model.ContainBlock a b
front_of (AsOf asked k) = model.AsOfBlock asked k

-- a search asks for 1 to 10,000 columns, a fraction is at most 1, and a position has 32 bits
abbrev pub IsFrontInRange : Front → Type 0
IsFrontInRange (Load name) = ⊤
IsFrontInRange (Replace name) = ⊤
IsFrontInRange (Search k) = (1 ≤ k) × (k ≤ 10000)
IsFrontInRange (Contain a b) = (1 ≤ a) × (a ≤ b) × (b ≤ 10000)
IsFrontInRange (AsOf asked k) = (asked < 2 ^ 32) × (1 ≤ k) × (k ≤ 10000)

abbrev pub said_of : Said → model.Said
said_of Nothing = model.Nothing
said_of Sync = model.Sync
said_of (Opens lane front) = model.Opens lane (front_of front)
said_of (Does lane task) = model.Does lane (task_of task)
said_of (Fetches lane name path) = model.Fetches lane name path.now

-- a lane is 1 to `lanes`
abbrev pub IsLane : ℕ → ℕ → Type 0
IsLane lanes lane = (0 < lane) × (lane ≤ lanes)

-- its lane and its numbers are in range, and a whole command has no body
abbrev pub IsSaidInRange : ℕ → Said → Type 0
IsSaidInRange lanes Nothing = ⊤
IsSaidInRange lanes Sync = ⊤
IsSaidInRange lanes (Opens lane front) = IsLane lanes lane × IsFrontInRange front
IsSaidInRange lanes (Does lane task) = IsLane lanes lane × IsTaskInRange task × (body_size (task_of task) ≡ 0)
IsSaidInRange lanes (Fetches lane name path) = IsLane lanes lane

-- what a line says, or what is wrong with it
abbrev pub Says : model.Said → Result Said Reason → Type 0
Says said (Ok answer) = said ≡ said_of answer
Says said (Err reason) = said ≡ model.Wrong reason
