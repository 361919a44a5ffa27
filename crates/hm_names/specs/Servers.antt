-- Servers as texts.
use Rattle.std.specs.Prelude.{ℕ, ◌+◌, ◌-◌, ◌≤◌, ◌<◌, ◌^◌, ◌==◌, if◌then◌else◌, Option, Some, None, Result, Ok, Err, List, length, ◌++◌, codes}
use Rattle.std.specs.Fmt.{decimal}
use Rattle.hm_names.specs.declared.fault.NameFault.{NameFault}
use Rattle.hm_names.specs.declared.fault.NameFault.TheVariants.{Empty, BadNumber}
use Rattle.hm_names.specs.Server.{Server}
use Rattle.hm_names.specs.Cuts.{cut_first}
use Rattle.hm_names.specs.Decimal.{number_of, within}
use Rattle.hm_names.specs.Names.{IsHost, host_fault}

-- a host, a port from 1 to 65,535 and a start code from 1
abbrev pub IsServer : Server → Type 0
IsServer s = IsHost s.host × (1 ≤ s.port) × (s.port ≤ 65535) × (1 ≤ s.start) × (s.start < 2 ^ 64)

-- host, `,`, port, `,`, start code
abbrev pub server_text : Server → List ℕ
server_text s = s.host ++ codes "," ++ decimal s.port ++ codes "," ++ decimal s.start

-- the server of a host, a port and a start code, which stand at places
abbrev pub server_of : List ℕ → Option NameFault → ℕ → Option ℕ → ℕ → Option ℕ → Result Server NameFault
server_of host (Some fault) port_place port start_place start = Err fault
server_of host None port_place None start_place start = Err (BadNumber port_place)
server_of host None port_place (Some port) start_place None = Err (BadNumber start_place)
server_of host None port_place (Some port) start_place (Some start) =
    Ok (record { host = host; port = port; start = start })

-- three parts of a text, the last of which has no `,`, read as a server
abbrev pub server_fields : List ℕ → List ℕ → List ℕ → List ℕ → Option (List ℕ × List ℕ) → Result Server NameFault
server_fields text host port start None =
    server_of host (host_fault 0 host)
    (length host + 1) (within 1 65535 (number_of port))
    (length host + length port + 2) (within 1 (2 ^ 64 - 1) (number_of start))
server_fields text host port start (Some parts) = Err (BadNumber (length text))

-- a host and the parts round the next `,`, read as a server
abbrev pub server_rest : List ℕ → List ℕ → Option (List ℕ × List ℕ) → Result Server NameFault
server_rest text host None = Err (BadNumber (length text))
server_rest text host (Some (port, start)) = server_fields text host port start (cut_first 44 start)

-- the parts round the first `,`, read as a server
abbrev pub server_parts : List ℕ → Option (List ℕ × List ℕ) → Result Server NameFault
server_parts text None = Err (if length text == 0 then Empty else BadNumber (length text))
server_parts text (Some (host, rest)) =
    if length host == 0 then Err Empty else server_rest text host (cut_first 44 rest)

-- a text read as a server
abbrev pub read_server : List ℕ → Result Server NameFault
read_server text = server_parts text (cut_first 44 text)
