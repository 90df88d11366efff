mod HostCallLaws
