-- What a call tells a person.
use Rattle.std.specs.Prelude.{◌≡◌, ◌⊎◌, List, ℕ, [], String, map, string_bytes}
use Rattle.std.specs.Global.{Global}
use Rattle.outside.specs.Outside.{Appends, AppendsFront, Rose, SinkState}
use Rattle.command_answers.specs.declared.status.Status.{Status}
use Rattle.command_answers.specs.declared.status.Status.TheVariants as status
use Rattle.message_words.specs.Failure.{cannot_put, cannot_read, cannot_write, out_of_memory}
use Rattle.message_words.specs.Usage.{usage}

-- what a file holds was refused
abbrev pub IsRefusal : Status → Type 0
IsRefusal status.Text = Unit {0}
IsRefusal status.Late = Unit {0}
IsRefusal status.Image = Unit {0}
IsRefusal status.Script = Unit {0}
IsRefusal status.Log = Unit {0}
IsRefusal other = ⊥

-- the message of a status, whose words are these, where this is that of what was refused
abbrev pub message_of : (words : List (String Global)) (refusal : List ℕ) → Status → List ℕ
message_of words refusal status.Done = []
message_of words refusal status.Usage = usage (map string_bytes words)
message_of words refusal (status.Unread name) = cannot_read name.now
message_of words refusal (status.Unwritten name) = cannot_write name.now
message_of words refusal status.Unput = cannot_put
message_of words refusal status.Memory = out_of_memory
message_of words refusal other = refusal

-- a status that has a message which is made at the end of the call
abbrev pub IsOwnMessage : Status → Type 0
IsOwnMessage status.Usage = Unit {0}
IsOwnMessage (status.Unread name) = Unit {0}
IsOwnMessage (status.Unwritten name) = Unit {0}
IsOwnMessage status.Unput = Unit {0}
IsOwnMessage status.Memory = Unit {0}
IsOwnMessage other = ⊥

-- a status that has a message
abbrev pub HasMessage : Status → Type 0
HasMessage status.Done = ⊥
HasMessage other = Unit {0}

-- the piece was put whole; or a front of it, and the sink's count of faults rose
abbrev pub HasPut : (piece : List ℕ) → (before now : SinkState) → Type 0
HasPut piece before now =
    (Appends before.taken now.taken piece × (now.faults ≡ before.faults))
    ⊎ (AppendsFront before.taken now.taken piece × Rose before.faults now.faults)

-- Nothing was put where there is no message; else it was, or, where there was not enough memory to
-- make it at the end, the one that says so.
pub data HasTold (words : List (String Global)) (refusal : List ℕ) (answer : Status) (before now : SinkState) : Type 0 where
  silent : ¬ HasMessage answer → now ≡ before → HasTold words refusal answer before now
  told : HasMessage answer → HasPut (message_of words refusal answer) before now → HasTold words refusal answer before now
  too_short : IsOwnMessage answer → HasPut out_of_memory before now → HasTold words refusal answer before now
