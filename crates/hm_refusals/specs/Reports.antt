-- Which reports are heard, and why others are ignored, in the order of judging.
use Rattle.std.specs.Prelude.{◌≡◌, ◌≢◌, Some, None, true, false}
use Rattle.hm_data.specs.declared.call.ReportMsg.{ReportMsg}
use Rattle.hm_model.specs.Journal.{Past}
use Rattle.hm_model.specs.Reports.{is_settled, peer_of, verb_of}
use Rattle.hm_model.specs.Rules.{FitsCall}
use Rattle.hm_refusals.specs.declared.reports.IgnoredWhy.{IgnoredWhy}
use Rattle.hm_refusals.specs.declared.reports.IgnoredWhy.TheVariants as ignored_is

-- the report comes from the one who was called, and its answer fits the call
abbrev pub IsProper : Past → ReportMsg → Type 0
IsProper J message =
    let call = message.call in (peer_of J call.0 ≡ Some message.from) × FitsCall J call.0 message.told

-- it is the first one of its call, whose procedure goes on
abbrev pub IsHeard : Past → ReportMsg → Type 0
IsHeard J message = let call = message.call in IsProper J message × (is_settled J call.0 ≡ false)

-- why a report is ignored: there is no such call, another one was called, the answer doesn't fit, or the call is settled
abbrev pub IsIgnored : Past → ReportMsg → IgnoredWhy → Type 0
IsIgnored J message ignored_is.Unknown = let call = message.call in verb_of J call.0 ≡ None
IsIgnored J message ignored_is.WrongPeer =
    let call = message.call in (verb_of J call.0 ≢ None) × (peer_of J call.0 ≢ Some message.from)
IsIgnored J message ignored_is.WrongTold =
    let call = message.call in (peer_of J call.0 ≡ Some message.from) × (FitsCall J call.0 message.told → ⊥)
IsIgnored J message ignored_is.Settled = let call = message.call in IsProper J message × (is_settled J call.0 ≡ true)
