use Rattle.std.proofs.Common.{◌++◌, ◌∷◌, [], Some, refl, sym, ap, subst, ◌∙◌, append-nil, inl}
use Rattle.hm_commands.specs.Answer.{answer_text}
use Rattle.hm_commands.specs.Commands.{Expires}
use Rattle.hm_commands.specs.View.{IsLeftBy, scene_in}
use Rattle.hm_commands.specs.declared.answer.Answer.{Answer}
use Rattle.hm_journal.specs.Opened.{Opened as OpenedAt}
use Rattle.hm_top.proofs.Openings.{answered_so, halted_is}
use Rattle.hm_top.proofs.opening.put_down.Goals as goal

pub returns-in-Ok-said-clause-done : goal.returns-in-Ok-said-clause-done
returns-in-Ok-said-clause-done g c =
    let old = scene_in c.args.cluster in
    let new = scene_in c.expire.new.self in
    let is = answered_so c.args.server old new c.in-Ok.answer c.requires.going c.requires.live c.in-Ok.ensures.comes (λ why same. c.in_default.not-Halted why same) in (
      c.in-Ok.answer ∷ [],
      record {
        live = c.requires.live;
        pid = is.0;
        expires = subst (λ (a : Answer). Expires c.args.server old (Some a) new) is.1 c.in-Ok.ensures.comes;
        once = c.keeps.ensures.once;
        said = ap (λ (a : Answer). a ∷ []) is.1;
      },
      λ told. c.in-Ok-said.ensures.all told ∙ ap (λ l. g.K.Sink.got c.args.out.now ++ l) (sym (append-nil (answer_text c.in-Ok.answer))),
    )

pub returns-in-Err-said-clause-early : goal.returns-in-Err-said-clause-early
returns-in-Err-said-clause-early g c =
    let old = scene_in c.args.cluster in
    let new = scene_in c.expire.new.self in
    let is = answered_so c.args.server old new c.in-Ok.answer c.requires.going c.requires.live c.in-Ok.ensures.comes (λ why same. c.in_default.not-Halted why same) in (
      new,
      (
        c.in-Ok.answer,
        record {
          live = c.requires.live;
          pid = is.0;
          expires = subst (λ (a : Answer). Expires c.args.server old (Some a) new) is.1 c.in-Ok.ensures.comes;
          once = c.keeps.ensures.once;
          said = ap (λ (a : Answer). a ∷ []) is.1;
        },
        c.in-Err-said.ensures.part,
      ),
      subst (λ (opened : OpenedAt _). IsLeftBy g.D.Disk opened new c.into_disk-in-Err-said.result) c.in-Ok.ensures.opened c.into_disk-in-Err-said.ensures.left,
    )

pub returns-in-Halted-clause-early : goal.returns-in-Halted-clause-early
returns-in-Halted-clause-early g c =
    let old = scene_in c.args.cluster in
    let new = scene_in c.expire.new.self in
    let comes = subst (λ (a : Answer). Expires c.args.server old (Some a) new) c.in-Halted.is c.in-Ok.ensures.comes in (
      new,
      ((c.requires.live, comes, halted_is c.args.server old new c.in-Halted.why c.requires.going comes), λ told. refl),
      subst (λ (opened : OpenedAt _). IsLeftBy g.D.Disk opened new c.into_disk-in-Halted.result) c.in-Ok.ensures.opened c.into_disk-in-Halted.ensures.left,
    )

pub returns-in-Err-clause-early : goal.returns-in-Err-clause-early
returns-in-Err-clause-early g c =
    let new = scene_in c.expire.new.self in (
      new,
      ((c.requires.live, inl c.in-Err.ensures.comes), λ told. refl),
      subst (λ (opened : OpenedAt _). IsLeftBy g.D.Disk opened new c.into_disk.result) c.in-Err.ensures.opened c.into_disk.ensures.left,
    )
