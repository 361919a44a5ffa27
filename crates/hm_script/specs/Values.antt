-- What words after a keyword may have to be, and what they are then read as.
use Rattle.std.specs.Prelude.{ℕ, Bool, true, false, Option, Some, None, Result, Ok, Err, List, [], ◌∷◌, codes, if◌then◌else◌}
use Rattle.std.specs.Fmt.{decimal}
use Rattle.std.specs.Str.{bytes_eq}
use Rattle.hm_names.specs.declared.fault.NameFault.{NameFault}
use Rattle.hm_names.specs.declared.nonce.Nonce.{Nonce}
use Rattle.hm_names.specs.declared.table.TableName.{TableName}
use Rattle.hm_names.specs.Decimal.{number_of, within}
use Rattle.hm_names.specs.Keys.{key_text, read_key}
use Rattle.hm_names.specs.Names.{read_ns}
use Rattle.hm_names.specs.Nonces.{nonce_text, read_nonce}
use Rattle.hm_names.specs.Region.{Region}
use Rattle.hm_names.specs.Regions.{region_text, read_region}
use Rattle.hm_names.specs.Server.{Server}
use Rattle.hm_names.specs.Servers.{server_text, read_server}
use Rattle.hm_names.specs.Tables.{table_text, read_table}
use Rattle.hm_script.specs.declared.bad.Why.{Why}
use Rattle.hm_script.specs.declared.bad.Why.TheVariants.{Number, Extra}
use Rattle.hm_script.specs.declared.keyword.Keyword.{Keyword}
use Rattle.hm_script.specs.Faults.{why_of}
use Rattle.hm_script.specs.Keywords.{keyword_text}

-- what a word has to be: a name, a decimal from one number to another, a server or the word `storage`, or the word `json`
pub data Need : Type 0 where
  nonce : Need
  ns : Need
  table : Need
  region : Need
  key : Need
  server : Need
  number : ℕ → ℕ → Need
  target : Need
  json : Need

-- what a word is read as
pub data Value : Type 0 where
  of_nonce : Nonce → Value
  of_ns : List ℕ → Value
  of_table : TableName → Value
  of_region : Region → Value
  of_key : List ℕ → Value
  of_server : Server → Value
  of_number : ℕ → Value
  of_storage : Value
  of_json : Value
  of_keyword : Keyword → Value

-- a name read as a value
abbrev pub named : {A : Type 0} → (A → Value) → Result A NameFault → Result Value Why
named form (Ok name) = Ok (form name)
named form (Err fault) = Err (why_of fault)

-- a number read as a value
abbrev pub numbered : Option ℕ → Result Value Why
numbered None = Err Number
numbered (Some n) = Ok (of_number n)

-- a word read as what it has to be
abbrev pub read : Need → List ℕ → Result Value Why
read nonce word = named of_nonce (read_nonce word)
read ns word = named of_ns (read_ns word)
read table word = named of_table (read_table word)
read region word = named of_region (read_region word)
read key word = named of_key (read_key word)
read server word = named of_server (read_server word)
read (number least most) word = numbered (within least most (number_of word))
read target word = if bytes_eq word (codes "storage") then Ok of_storage else named of_server (read_server word)
read json word = if bytes_eq word (codes "json") then Ok of_json else Err Extra

-- what is kept of such a word takes memory
abbrev pub takes_memory : Need → Bool
takes_memory nonce = false
takes_memory ns = true
takes_memory table = true
takes_memory region = true
takes_memory key = true
takes_memory server = true
takes_memory (number least most) = false
takes_memory target = true
takes_memory json = false

-- how a value is printed
abbrev pub value_text : Value → List ℕ
value_text (of_nonce v) = nonce_text v
value_text (of_ns v) = v
value_text (of_table v) = table_text v
value_text (of_region v) = region_text v
value_text (of_key v) = key_text v
value_text (of_server v) = server_text v
value_text (of_number n) = decimal n
value_text of_storage = codes "storage"
value_text of_json = codes "json"
value_text (of_keyword keyword) = keyword_text keyword

-- a server, or the storage where there is none
abbrev pub target_value : Option Server → Value
target_value None = of_storage
target_value (Some v) = of_server v

-- perhaps a server
abbrev pub server_values : Option Server → List Value
server_values None = []
server_values (Some v) = of_server v ∷ []

-- perhaps the word `json`
abbrev pub json_values : Bool → List Value
json_values false = []
json_values true = of_json ∷ []
