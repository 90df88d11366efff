mod FindLaws
